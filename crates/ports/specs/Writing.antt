-- What a sink reports of itself, and what a put adds to it.
use Rattle.std.specs.Prelude.{◌≡◌, ℕ, ◌≤◌, ◌⊎◌, List, ◌++◌, take, Option}
use Rattle.std.specs.Option.{option_map}
use Rattle.ports.specs.Counts.{Rose, count_after}

pub record SinkReport : Type 0 where
  -- all bytes that it got, where it reports them
  pub text : Option (List ℕ)
  -- the number of puts that succeeded, where it reports it
  pub puts : Option ℕ
  -- how many puts failed
  pub faults : ℕ

-- the sink got these bytes, or only a prefix of them
abbrev pub Got : Option (List ℕ) → List ℕ → Option (List ℕ) → Type 0
Got old bytes new = new ≡ option_map (λ text. text ++ bytes) old

abbrev pub GotPrefix : Option (List ℕ) → List ℕ → Option (List ℕ) → Type 0
GotPrefix old bytes new = (n : ℕ) × Got old (take n bytes) new

-- a put of these bytes that succeeded, and one that failed
pub record Puts (old : SinkReport) (bytes : List ℕ) (new : SinkReport) : Type 0 where
  pub text : Got old.text bytes new.text
  pub puts : new.puts ≡ option_map (λ count. count_after count 1) old.puts
  pub no_fault : new.faults ≡ old.faults

pub record FailsToPut (old : SinkReport) (bytes : List ℕ) (new : SinkReport) : Type 0 where
  pub text : GotPrefix old.text bytes new.text
  pub puts : new.puts ≡ old.puts
  pub fault : Rose old.faults new.faults
  pub faults : old.faults ≤ new.faults

-- the sink got a line, or a prefix of it where a put failed
abbrev pub GotLine : SinkReport → List ℕ → SinkReport → Type 0
GotLine old line new = Got old.text line new.text ⊎ (GotPrefix old.text line new.text × Rose old.faults new.faults)
