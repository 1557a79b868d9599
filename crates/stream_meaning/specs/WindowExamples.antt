-- Small plans whose streams count seconds, at the moments and times where a window, a run or a stretch ends.
use Rattle.std.specs.Prelude.{◌≡◌, ℕ, ℤ, pos, negsuc, [], ◌∷◌, Some}
use Rattle.ev_types.specs.declared.event.Event.{Event}
use Rattle.ev_types.specs.declared.field.Field.TheVariants.{State}
use Rattle.stream_plan.specs.Tree.{Stable, FixedTime, MovingTime, Coalesce}
use Rattle.stream_meaning.specs.Windows.{stretch_of}
use Rattle.stream_meaning.specs.Small.{noticing, of_many, of_one, Gives, a, b, ok, bad, Wait, Comes}

-- has three seconds to live from the moment 1 on, and so is expired from the moment 5 on
abbrev pub brief : Event
brief = record (a 1) { ttl = Some 3 }

-- an event that has expired before it comes passes once, as it came within the window
abbrev pub ExpiredOnArrivalExample : Type 0
ExpiredOnArrivalExample =
    Gives (noticing (Coalesce 10)) 0 (Wait 12 ∷ Comes brief ∷ Wait 18 ∷ []) (of_many 20 (brief ∷ []) ∷ [])

-- also where it came at the moment at which the window begins
abbrev pub ExpiredAtTheStartExample : Type 0
ExpiredAtTheStartExample =
    Gives (noticing (Coalesce 10)) 0 (Wait 10 ∷ Comes brief ∷ Wait 20 ∷ []) (of_many 20 (brief ∷ []) ∷ [])

-- the events pass by host, and of each host the one that came last, whatever its time
abbrev pub CoalesceOrderExample : Type 0
CoalesceOrderExample =
    Gives (noticing (Coalesce 10)) 0 (Wait 1 ∷ Comes (b 5) ∷ Comes (a 2) ∷ Comes (b 3) ∷ Wait 9 ∷ [])
    (of_many 10 (a 2 ∷ b 3 ∷ []) ∷ [])

-- an event whose time is exactly the window's length before the latest is not in it
abbrev pub MovingTimeEndExample : Type 0
MovingTimeEndExample =
    Gives (noticing (MovingTime 10)) 0 (Comes (a 100) ∷ Comes (a 110) ∷ Comes (a 100) ∷ Comes (a 101) ∷ [])
    (of_many 0 (a 100 ∷ []) ∷ of_many 0 (a 110 ∷ []) ∷ of_many 0 (a 110 ∷ a 101 ∷ []) ∷ [])

-- a run passes exactly five seconds after it began, and from then on what goes on with it
abbrev pub StableEndExample : Type 0
StableEndExample =
    Gives (noticing (Stable 5 State)) 100 (Comes (ok 100) ∷ Wait 5 ∷ Comes (ok 105) ∷ [])
    (of_one 105 (ok 100) ∷ of_one 105 (ok 105) ∷ [])

-- a change at that moment begins a run of its own
abbrev pub StableChangeExample : Type 0
StableChangeExample =
    Gives (noticing (Stable 5 State)) 100 (Comes (ok 100) ∷ Wait 5 ∷ Comes (bad 105) ∷ Wait 5 ∷ [])
    (of_one 105 (ok 100) ∷ of_one 110 (bad 105) ∷ [])

-- a change one second before it leaves nothing to pass at it
abbrev pub StableTooShortExample : Type 0
StableTooShortExample =
    Gives (noticing (Stable 5 State)) 100 (Comes (ok 100) ∷ Wait 4 ∷ Comes (bad 104) ∷ Wait 5 ∷ [])
    (of_one 109 (bad 104) ∷ [])

-- an event of a time before the first one is in an earlier stretch, which is dropped
abbrev pub NegativeStretchExample : Type 0
NegativeStretchExample =
    Gives (noticing (FixedTime 10)) 0 (Comes (a 100) ∷ Comes (a 95) ∷ Comes (a 105) ∷ Comes (a 110) ∷ [])
    (of_many 0 (a 100 ∷ a 105 ∷ []) ∷ [])

abbrev pub stretch_from_100 : ℕ → ℤ
stretch_from_100 time = stretch_of 10 (a 100) (a time)

-- the numbers of stretches at their ends
pub record StretchNumbers : Type 0 where
  pub last_of_second_before : stretch_from_100 89 ≡ negsuc 1
  pub first_before : stretch_from_100 90 ≡ negsuc 0
  pub last_before : stretch_from_100 99 ≡ negsuc 0
  pub first : stretch_from_100 100 ≡ pos 0
  pub last : stretch_from_100 109 ≡ pos 0
  pub next : stretch_from_100 110 ≡ pos 1
