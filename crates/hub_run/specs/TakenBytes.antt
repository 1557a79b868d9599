-- What a link of a number was sent, and what it is replied.
use Rattle.std.specs.Prelude.{ℕ, List, [], Option, Some, None}
use Rattle.conn_core.specs.hub_meaning.Links.{Link, find_link}

abbrev pub taken_of : Option Link → List ℕ
taken_of None = []
taken_of (Some link) = link.taken

-- what was taken of the link of this number; nothing where there is none
abbrev pub taken_on : ℕ → List Link → List ℕ
taken_on number links = taken_of (find_link number links)

abbrev pub replies_of : Option Link → List ℕ
replies_of None = []
replies_of (Some link) = link.replies

-- all replies to the link of this number, taken or not; none where there is no such link
abbrev pub replies_on : ℕ → List Link → List ℕ
replies_on number links = replies_of (find_link number links)
