-- The request of a query.
use Rattle.std.specs.Prelude.{◌≡◌, ℕ, ◌≤◌, List, [], ◌∷◌, length, Some, None}
use Rattle.framing.specs.Frames.{frame, frames_of}
use Rattle.query_lang.specs.declared.read.TheConstants.{MAX_BYTES}
use Rattle.riemann_msg.specs.Spelling.{spelling}
use Rattle.riemann_msg.specs.declared.msg.Msg.{Msg}
use Rattle.riemann_msg.specs.declared.msg.QueryPart.{QueryPart}

-- the message that asks a query of this text
abbrev pub asked_part : List ℕ → QueryPart
asked_part text = record { string = Some text }

abbrev pub asking : List ℕ → Msg
asking text = record { ok = None; error = None; query = Some (asked_part text); events = [] }

abbrev pub query_frame : List ℕ → List ℕ
query_frame text = frame (spelling (asking text))

abbrev pub QueriesAreRequests : Type 0
QueriesAreRequests =
    (text : List ℕ) → length text ≤ MAX_BYTES → frames_of (query_frame text) ≡ spelling (asking text) ∷ []
