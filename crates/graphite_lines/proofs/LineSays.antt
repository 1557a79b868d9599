-- What lines say, by their words.
use Rattle.std.proofs.Common.{◌≡◌, ℕ, ℤ, ◌≤◌, true, List, [], ◌∷◌, length, Option, Some, None, Ok, refl}
use denote.Ref.{Bor}
use Rattle.std.proofs.Common.{arith}
use Rattle.std.specs.Option.{IfSome}
use Rattle.graphite_lines.specs.Lines.{host_in, metric_event, said_by, service_in}
use Rattle.graphite_lines.specs.Words.{is_path, is_time, is_value, time_of, value_of}

pub words_accepted : (path value time : List ℕ) (part : Option ℕ) (host : Option (List ℕ)) (service : List ℕ) (m t : ℤ)
    → is_path path ≡ true → is_value value ≡ true → is_time time ≡ true → m ≡ value_of value → t ≡ time_of time
    → host ≡ host_in part path → service ≡ service_in part path
    → said_by part (path ∷ (value ∷ (time ∷ []))) ≡ Ok (Some (metric_event t service host m))
words_accepted path value time part host service m t p v w m_is t_is host_is service_is =
    rw (p, v, w, m_is, t_is, host_is, service_is) refl

pub short_host : (host : Option (Bor (List ℕ))) (n : ℕ) → n ≤ 1024 → IfSome host (λ h. length h.now ≤ n)
    → IfSome host (λ h. length h.now ≤ 1024)
short_host None n few short = tt
short_host (Some h) n few short = omega arith
