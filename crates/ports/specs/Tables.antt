-- What links in memory keep for each link.
use Rattle.std.specs.Prelude.{ℕ, nat_eq, List, [], unwrap_or}
use Rattle.std.specs.declared.hash.FoldHasher.{FoldHasher}
use Rattle.std.specs.declared.hash.BuildHasherDefault.{BuildHasherDefault}
use Rattle.std.specs.HashMap.{get, HashMap}
use Rattle.ports.specs.Playing.{SendRules, takes_all}
use Rattle.ports.specs.declared.rules.SendRule.{SendRule}

-- a map from numbers of links
abbrev pub ByLink : Type 0 → Type 0
ByLink V = HashMap ℕ V (BuildHasherDefault FoldHasher)

-- the rules of all links
abbrev pub rules_in : ByLink SendRule → SendRules
rules_in table = λ link. unwrap_or (get nat_eq table link) takes_all

-- the bytes that were taken from a link
abbrev pub taken_in : ByLink (List ℕ) → ℕ → List ℕ
taken_in table = λ link. unwrap_or (get nat_eq table link) []
