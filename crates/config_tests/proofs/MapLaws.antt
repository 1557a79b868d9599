-- Maps, two forms further on.
use Rattle.std.proofs.Common.{◌≡◌, ℕ, Ok, refl}
use Rattle.sexp_read.specs.Tree.{FormTree, FormTrees, also}
use Rattle.config_tests.specs.declared.map.Described.{Described}
use Rattle.config_tests.specs.declared.map.MapKey.{MapKey}
use Rattle.config_tests.specs.Maps.{described_from, new_key_at, with_part}

pub described_more : (place : ℕ) (described more : Described) (left rest forms : FormTrees) (form part : FormTree)
    (key : MapKey) →
    left ≡ also form rest → rest ≡ also part forms → new_key_at described form ≡ Ok key →
    with_part described key part ≡ Ok more →
    described_from place described left ≡ described_from place more forms
unfolding described_from
described_more place described more left rest forms form part key at later known read = rw (at, later, known, read) refl
