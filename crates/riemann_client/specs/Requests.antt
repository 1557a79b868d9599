-- The requests of a client: what of them was taken, and how many have a reply.
use Rattle.std.specs.Prelude.{◌≡◌, ℕ, ◌+◌, ◌<◌, ◌≤◌, Bool, true, false, List, length, take, drop}
use Rattle.framing.specs.Frames.{Represents, frames_of}

pub record Requested : Type 0 where
  -- the frames of the requests, one after another
  pub stream : List ℕ
  -- how many of these bytes were taken
  pub taken : ℕ
  -- how many of them are those of requests that have a reply
  pub answered : ℕ

abbrev pub taken_of : Requested → List ℕ
taken_of requests = take requests.taken requests.stream

-- how many requests were sent whole
abbrev pub sent_count : Requested → ℕ
sent_count requests = length (frames_of (taken_of requests))

-- what was taken of the requests that have no reply
abbrev pub waiting : Requested → List ℕ
waiting requests = drop requests.answered (taken_of requests)

-- the first `count` requests have a reply, and no other
pub record HasAnswered (requests : Requested) (count : ℕ) : Type 0 where
  pub bodies : List (List ℕ)
  pub count_is : length bodies ≡ count
  pub are : Represents (waiting requests) bodies (taken_of requests)

-- the same requests, of which as much was taken
pub record IsAsSent (old new : Requested) : Type 0 where
  pub stream : new.stream ≡ old.stream
  pub taken : new.taken ≡ old.taken

-- the next request was sent whole, and has a reply now; or it was not
pub record AnswersNext (old new : Requested) (count : ℕ) : Type 0 where
  pub asked : count < sent_count old
  pub answered : HasAnswered new (count + 1)

abbrev pub AnswersIfSent : Requested → Requested → Bool → Type 0
AnswersIfSent old new true = (count : ℕ) → HasAnswered old count → AnswersNext old new count
AnswersIfSent old new false = (count : ℕ) → HasAnswered old count → sent_count old ≤ count
