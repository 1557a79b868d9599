-- A run of the examples is legal, call by call, and another one is not.
use Rattle.std.proofs.Common.{◌≡◌, true, [], ◌∷◌, refl, sym, subst, arith}
use Rattle.hub_meaning.specs.Examples.{LateRoomExample, ClosedEarlyExample, ok_reply}
use Rattle.hub_meaning.specs.Legal.{MayClose}
use Rattle.hub_meaning.specs.Links.{Link, ReadClosed}

pub late_room_example : LateRoomExample
late_room_example = (
  (refl, (_, refl, record { connected = refl; free = refl; some = omega arith; next = refl })),
  (
    (refl, (_, refl, record { connected = refl; free = refl; some = omega arith; next = refl })),
    (
      record { wanted = refl; settled = ((λ _. refl), tt); verdicts = refl },
      (
        record { wanted = refl; settled = ((omega arith, refl), tt); verdicts = refl },
        (
          (refl, (_, refl, record { connected = refl; free = refl; some = omega arith; next = refl })),
          ((refl, (_, refl, refl)), tt),
        ),
      ),
    ),
  ),
)

-- the link when its peer has ended, of whose reply four bytes were taken
half_taken : Link
half_taken =
    record { number = 0; stage = ReadClosed; blocked = true; came = []; replies = ok_reply; taken = 0 ∷ 0 ∷ 0 ∷ 2 ∷ [] }

pub closed_early_example : ClosedEarlyExample
unfolding half_taken
closed_early_example legal =
    let on = legal.1.1.1.0.1 in
    let same : half_taken ≡ on.0 = cc (on.1) in
    let nothing : 16 ∷ 1 ∷ [] ≡ [] = subst MayClose (sym same) on.2 in
    absurd (cc nothing)
