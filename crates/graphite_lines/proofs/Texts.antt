-- The lines of a text, taken one after the other.
use Rattle.std.proofs.Common.{◌≡◌, ℕ, ◌+◌, ◌<◌, ◌≤◌, List, [], ◌∷◌, ◌++◌, length, Option, refl, sym, ◌∙◌, ap, arith}
use Rattle.std.proofs.Common.{append_assoc, append-nil}
use Rattle.std.proofs.lemmas.Grind.{flat_map-append}
use Rattle.std.proofs.lemmas.List.Elements.{filter_map-append}
use Rattle.std.specs.List.{enumerate_from}
use Rattle.ev_types.specs.declared.event.Event.{Event}
use Rattle.framing.specs.Frames.{frame}
use Rattle.list_laws.specs.Prefix.{IsPrefix}
use Rattle.riemann_msg.specs.Spelling.{spelling}
use Rattle.graphite_lines.specs.declared.bad.BadLine.{BadLine}
use Rattle.graphite_lines.specs.Frames.{accepted, accepted_in, frames_in, frames_with, message_with, refused_from}
use Rattle.graphite_lines.specs.Frames.{refused_in, refused_lines}
use Rattle.graphite_lines.specs.Lines.{line_says, lines_of}

accepted_more : (host_part : Option ℕ) (line : List ℕ) (lines : List (List ℕ))
    → accepted host_part (line ∷ lines) ≡ accepted host_part (line ∷ []) ++ accepted host_part lines
unfolding accepted
accepted_more host_part line lines =
    filter_map-append (λ (line : List ℕ). accepted_in (line_says host_part line)) (line ∷ []) lines

frames_append : (before after : List Event) → frames_with (before ++ after) ≡ frames_with before ++ frames_with after
unfolding frames_with
frames_append before after = flat_map-append (λ (event : Event). frame (spelling (message_with event))) before after

frames_more : (host_part : Option ℕ) (line : List ℕ) (lines : List (List ℕ))
    → frames_with (accepted host_part (line ∷ lines))
    ≡ frames_with (accepted host_part (line ∷ [])) ++ frames_with (accepted host_part lines)
frames_more host_part line lines =
    ap frames_with (accepted_more host_part line lines)
    ∙ frames_append (accepted host_part (line ∷ [])) (accepted host_part lines)

refused_more : (number : ℕ) (host_part : Option ℕ) (line : List ℕ) (lines : List (List ℕ))
    → refused_from number host_part (line ∷ lines)
    ≡ refused_from number host_part (line ∷ []) ++ refused_from (number + 1) host_part lines
unfolding refused_from
refused_more number host_part line lines =
    filter_map-append (λ (at : ℕ × List ℕ). refused_in at.0 (line_says host_part at.1)) ((number, line) ∷ [])
    (enumerate_from (number + 1) lines)

-- The lines before the one of this number were taken, and `left` is what is left of the text.
pub record AreTaken (host_part : Option ℕ) (text : List ℕ) (out out' : List ℕ) (bad bad' : List BadLine) (number : ℕ)
    (left : List ℕ) : Type 0 where
  pub frames : out' ++ frames_with (accepted host_part (lines_of left)) ≡ out ++ frames_in host_part text
  pub refused : bad' ++ refused_from number host_part (lines_of left) ≡ bad ++ refused_lines host_part text
  pub out_begins : IsPrefix out out'
  pub bad_begins : IsPrefix bad bad'
  pub few : number + length left ≤ length text + 1

pub none_taken : (host_part : Option ℕ) (text : List ℕ) (out : List ℕ) (bad : List BadLine)
    → AreTaken host_part text out out bad bad 1 text
none_taken host_part text out bad = record {
  frames = refl;
  refused = refl;
  out_begins = ([], sym (append-nil out));
  bad_begins = ([], sym (append-nil bad));
  few = omega arith;
}

pub begins_more : {T : Type 0} (a b c : List T) → IsPrefix a b → IsPrefix b c → IsPrefix a c
begins_more a b c p q = (p.0 ++ q.0, q.1 ∙ ap (λ xs. xs ++ q.0) p.1 ∙ append_assoc a p.0 q.0)

-- one line more
pub one_taken : (host_part : Option ℕ) (text out out' out'' : List ℕ) (bad bad' bad'' : List BadLine) (number : ℕ)
    (left line rest : List ℕ)
    → AreTaken host_part text out out' bad bad' number left → lines_of left ≡ line ∷ lines_of rest
    → length rest < length left
    → out'' ≡ out' ++ frames_with (accepted host_part (line ∷ []))
    → bad'' ≡ bad' ++ refused_from number host_part (line ∷ [])
    → AreTaken host_part text out out'' bad bad'' (number + 1) rest
one_taken host_part text out out' out'' bad bad' bad'' number left line rest taken lines shorter written kept = record {
  frames =
      rw written (append_assoc out' (frames_with (accepted host_part (line ∷ [])))
      (frames_with (accepted host_part (lines_of rest))))
      ∙ ap (λ more. out' ++ more)
      (sym (ap (λ ls. frames_with (accepted host_part ls)) lines ∙ frames_more host_part line (lines_of rest)))
      ∙ taken.frames;
  refused =
      rw kept (append_assoc bad' (refused_from number host_part (line ∷ []))
      (refused_from (number + 1) host_part (lines_of rest)))
      ∙ ap (λ more. bad' ++ more)
      (sym (ap (λ ls. refused_from number host_part ls) lines ∙ refused_more number host_part line (lines_of rest)))
      ∙ taken.refused;
  out_begins = begins_more out out' out'' taken.out_begins (frames_with (accepted host_part (line ∷ [])), written);
  bad_begins = begins_more bad bad' bad'' taken.bad_begins (refused_from number host_part (line ∷ []), kept);
  few = let few = taken.few in omega arith;
}
