-- How far a text is read.
use Rattle.std.proofs.Common.{◌≡◌, ℕ, ◌+◌, ◌<◌, ◌≤◌, List, [], ◌++◌, length, drop, get_or, Some, Ok, Err, refl, ap, sym}
use Rattle.std.proofs.Common.{◌∙◌, arith, append_assoc}
use Rattle.std.proofs.lemmas.List.{append-nil}
use Rattle.sexp_read.specs.declared.piece.Piece.{Piece}
use Rattle.sexp_read.specs.Tree.{FormTrees, none}
use Rattle.sexp_read.specs.Tokens.{Fault, Lexed, lexed, tokens_in, piece_at}
use Rattle.sexp_read.specs.Grammar.{AreRead, fault_after, forms_fault, unclosed}
use Rattle.sexp_read.specs.Reading.{Reading, brackets_of, with_piece}
use Rattle.sexp_read.proofs.Lexing.{rest, rest_more, rest_fault, rest_none, rest_all}
use Rattle.sexp_read.proofs.ReadingLaws.{read_tokens, piece_tokens, piece_fault, piece_refused}

-- what is read up to a place: its tokens and those after the place are all, and so is the fault
pub record IsReadTo (text : List ℕ) (place : ℕ) (reading : Reading) : Type 0 where
  pub within : place ≤ length text
  pub tokens : (lexed text).tokens ≡ read_tokens reading ++ (rest text place).tokens
  pub fault : (lexed text).fault ≡ (rest text place).fault
  pub refused : forms_fault text ≡ fault_after (brackets_of reading.stack) (rest text place)

pub read_none : (text : List ℕ) → IsReadTo text 0 (record { stack = []; forms = none })
unfolding forms_fault
read_none text = record {
  within = omega arith;
  tokens = ap (λ (l : Lexed). l.tokens) (rest_all text);
  fault = ap (λ (l : Lexed). l.fault) (rest_all text);
  refused = ap (fault_after []) (rest_all text);
}

pub read_more : (text : List ℕ) (place last : ℕ) (piece : Piece) (reading after : Reading) → IsReadTo text place reading
    → place < length text → place < last → last ≤ length text
    → piece_at place (get_or text place 0) (drop (place + 1) text) ≡ Ok (piece, last)
    → with_piece reading place piece last ≡ Ok after → IsReadTo text last after
read_more text place last piece reading after so h more within e r =
    let step = rest_more text place last piece h more e in
    record {
      within = within;
      tokens = so.tokens ∙ ap (λ (l : Lexed). read_tokens reading ++ l.tokens) step
          ∙ sym (append_assoc (read_tokens reading) (tokens_in place piece last) (rest text last).tokens)
          ∙ ap (λ tokens. tokens ++ (rest text last).tokens) (sym (piece_tokens reading place last piece after r));
      fault = so.fault ∙ ap (λ (l : Lexed). l.fault) step;
      refused =
          so.refused ∙ ap (fault_after (brackets_of reading.stack)) step
          ∙ piece_fault reading place last piece after (rest text last) r;
    }

pub read_refused : (text : List ℕ) (place last : ℕ) (piece : Piece) (reading : Reading) (fault : Fault)
    → IsReadTo text place reading
    → place < length text → place < last
    → piece_at place (get_or text place 0) (drop (place + 1) text) ≡ Ok (piece, last)
    → with_piece reading place piece last ≡ Err fault → forms_fault text ≡ Some fault
read_refused text place last piece reading fault so h more e r =
    so.refused ∙ ap (fault_after (brackets_of reading.stack)) (rest_more text place last piece h more e)
    ∙ piece_refused reading place last piece fault (rest text last) r

pub read_faulty : (text : List ℕ) (place : ℕ) (reading : Reading) (fault : Fault) → IsReadTo text place reading
    → place < length text → piece_at place (get_or text place 0) (drop (place + 1) text) ≡ Err fault
    → forms_fault text ≡ Some fault
unfolding fault_after
read_faulty text place reading fault so h e =
    so.refused ∙ ap (fault_after (brackets_of reading.stack)) (rest_fault text place fault h e)

pub read_to_end : (text : List ℕ) (place : ℕ) (reading : Reading) → IsReadTo text place reading → length text ≤ place
    → forms_fault text ≡ unclosed (brackets_of reading.stack)
unfolding fault_after
read_to_end text place reading so h = so.refused ∙ ap (fault_after (brackets_of reading.stack)) (rest_none text place h)

pub read_all : (text : List ℕ) (place : ℕ) (reading : Reading) (forms : FormTrees) → IsReadTo text place reading
    → length text ≤ place
    → reading.stack ≡ [] → forms ≡ reading.forms → AreRead (lexed text) forms
read_all text place reading forms so h empty same =
    let none = rest_none text place h in
    record {
      spelled =
          so.tokens ∙ ap (λ (l : Lexed). read_tokens reading ++ l.tokens) none ∙ append-nil (read_tokens reading)
          ∙ rw (empty, same) refl;
      faultless = so.fault ∙ ap (λ (l : Lexed). l.fault) none;
    }
