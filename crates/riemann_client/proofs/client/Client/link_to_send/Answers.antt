use Rattle.std.proofs.Common.{◌≡◌, ℕ, ◌<◌, ◌==◌, nat_lt, Bool, true, false, cond, not, ◌&&◌, List, length, drop, Option, None}
use Rattle.std.proofs.Common.{refl, sym, ◌∙◌, ap, arith}
use Rattle.std.proofs.lemmas.Bool.{eqb-false, eqb-true, lt-ltb}
use Rattle.riemann_client.specs.declared.client.Client.{Client}
use Rattle.riemann_client.proofs.client.Client.link_to_send.Goals.{then-self-via-then-self}
use Rattle.riemann_client.proofs.client.Client.link_to_send.Goals.{then-self-via-else-self+then-self-2}
use Rattle.riemann_client.proofs.client.Client.link_to_send.Goals.{then-self-via-else-self+else-self-2+then-is_empty}
use Rattle.riemann_client.proofs.client.Client.link_to_send.Goals as goal

-- the link, where `count` bytes are unsent
abbrev link_for : Bool → Bool → ℕ → Option ℕ → Option ℕ
link_for gone blocked count link = cond (not gone && (not blocked && nat_lt 0 count)) link None

-- the link that the client may send to, of which `unsent` are the bytes that were not taken
abbrev link_with : Client → List ℕ → Option ℕ
link_with client unsent = link_for client.gone client.blocked (length unsent) client.link

is_gone : (client : Client) (unsent : List ℕ) → client.gone ≡ true → None ≡ link_with client unsent
is_gone client unsent gone = rw gone refl

when_blocked : (gone : Bool) (count : ℕ) (link : Option ℕ) → None ≡ link_for gone true count link
when_blocked true count link = refl
when_blocked false count link = refl

is_blocked : (client : Client) (unsent : List ℕ) → client.blocked ≡ true → None ≡ link_with client unsent
is_blocked client unsent blocked = rw blocked (when_blocked client.gone (length unsent) client.link)

when_sent : (gone blocked : Bool) (link : Option ℕ) → None ≡ link_for gone blocked 0 link
when_sent true blocked link = refl
when_sent false true link = refl
when_sent false false link = refl

is_sent : (client : Client) (unsent bytes : List ℕ) → bytes ≡ unsent → (length bytes == 0) ≡ true
    → None ≡ link_with client unsent
is_sent client unsent bytes same none =
    let empty : length unsent ≡ 0 = ap length (sym same) ∙ eqb-true (length bytes) 0 none in
    rw empty (when_sent client.gone client.blocked client.link)

when_free : (count : ℕ) (link : Option ℕ) → 0 < count → link ≡ link_for false false count link
when_free count link some = rw (lt-ltb 0 count some) refl

is_free : (client : Client) (unsent bytes : List ℕ) → client.gone ≡ false → client.blocked ≡ false → bytes ≡ unsent
    → (length bytes == 0) ≡ false → client.link ≡ link_with client unsent
is_free client unsent bytes works free same some =
    let full = eqb-false (length bytes) 0 some in
    let as_many = ap length same in
    let more : 0 < length unsent = omega arith in
    rw (works, free) (when_free (length unsent) client.link more)

pub returns-then-self : goal.returns-then-self
returns-then-self c =
    let client = c.args.self.now in let unsent = drop client.requests.taken client.requests.stream in
    elim c.then-self.branch [
      | then-self-via-then-self w ↦ is_gone client unsent w.if-self.true
      | then-self-via-else-self+then-self-2 w ↦ is_blocked client unsent w.if-self-2.true
      | then-self-via-else-self+else-self-2+then-is_empty w ↦
          is_sent client unsent w.unsent.result.now w.unsent.ensures (sym w.is_empty.ensures ∙ w.if-is_empty.true)
    ]

pub returns : goal.returns
returns c =
    let client = c.args.self.now in
    is_free client (drop client.requests.taken client.requests.stream) c.unsent.result.now c.if-self.false
    c.if-self-2.false c.unsent.ensures (sym c.is_empty.ensures ∙ c.if-is_empty.false)
