-- How maps that describe an event are read, step by step, and what each step refuses at which place. Which forms are
-- maps is said by the grammar, apart from these steps (`Grammar.antt`).
use Rattle.std.specs.Prelude.{ℕ, if◌then◌else◌, List, [], ◌∷◌, ◌++◌, Option, Some, None, Result, Ok, Err}
use Rattle.std.specs.Str.{bytes_eq}
use Rattle.ev_types.specs.declared.field.Field.{Field}
use Rattle.ev_types.specs.Names.{named_field}
use Rattle.sexp_read.specs.Tree.{FormTree, FormTrees, none, also}
use Rattle.config_terms.specs.declared.fault.ConfigWhy.TheVariants as why
use Rattle.config_terms.specs.Steps.{Fault, ◌>>=◌, start_of}
use Rattle.config_terms.specs.Words.{tags_text}
use Rattle.config_terms.specs.Arguments.{Argument, Keyword, taken, set_at, texts_at, vector_at, map_at}
use Rattle.config_tests.specs.declared.map.Described.{Described}
use Rattle.config_tests.specs.declared.map.MapKey.{MapKey}
use Rattle.config_tests.specs.declared.map.MapKey.TheVariants as key
use Rattle.config_tests.specs.Grammar.{nothing, has_key}

-- ---- keys

abbrev pub key_of_field : Option Field → Option MapKey
key_of_field None = None
key_of_field (Some field) = Some (key.Field field)

-- `:tags`, or a keyword that is a field
abbrev pub key_in : Argument → Option MapKey
key_in (Keyword name) = if bytes_eq name tags_text then Some key.Tags else key_of_field (named_field name)
key_in _ = None

unfoldable pub key_at : FormTree → Result MapKey Fault
key_at = taken key_in []

abbrev pub new_key : ℕ → Described → MapKey → Result MapKey Fault
new_key place described one = if has_key one described then Err (place, why.Twice) else Ok one

unfoldable pub new_key_at : Described → FormTree → Result MapKey Fault
new_key_at described f = key_at f >>= new_key (start_of f) described

-- ---- what comes after a key

-- a vector of texts
unfoldable pub tags_at : FormTree → Result (List (List ℕ)) Fault
tags_at f = vector_at [] f >>= λ forms. texts_at [] f

unfoldable pub with_part : Described → MapKey → FormTree → Result Described Fault
with_part described (key.Field field) f =
    set_at [] field f >>= λ set. Ok (record described { sets = described.sets ++ set ∷ [] })
with_part described key.Tags f = tags_at f >>= λ tags. Ok (record described { tags = Some tags })

-- ---- keys and what comes after them alternately, in a map that starts at the place

unfoldable pub described_from : ℕ → Described → FormTrees → Result Described Fault
described_from place described none = Ok described
described_from place described (also f none) = new_key_at described f >>= λ known. Err (place, why.Arguments)
described_from place described (also f (also part forms)) =
    new_key_at described f >>= λ known.
    with_part described known part >>= λ more.
    described_from place more forms

unfoldable pub described_at : FormTree → Result Described Fault
described_at f = map_at [] f >>= described_from (start_of f) nothing
