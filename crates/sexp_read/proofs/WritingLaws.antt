-- Writing forms piece by piece.
use Rattle.std.proofs.Common.{◌≡◌, ℕ, ◌+◌, ◌<◌, List, [], ◌∷◌, ◌++◌, length, get_or, take, Vec, Global, refl, ap, sym}
use Rattle.std.proofs.Common.{◌∙◌, append_assoc}
use Rattle.std.proofs.Math.Seq.{take-length}
use Rattle.std.proofs.lemmas.List.{take_more, append-nil}
use Rattle.list_laws.specs.Prefix.{IsPrefix}
use Rattle.sexp_read.specs.declared.form.Form.{Form}
use Rattle.sexp_read.specs.declared.form.Shape.{Shape}
use Rattle.sexp_read.specs.declared.form.Shape as code
use Rattle.sexp_read.specs.Tree.{Round, Square, Curly, FormTree, shape_tree, form_tree, form_trees}
use Rattle.sexp_read.specs.Written.{Branch, bare_tree, bare_trees, tree_text, later_text, lines_text}
use Rattle.sexp_read.proofs.Forms.{list_tree, vector_tree, map_tree}

-- a group's forms

shaped : (form : Form) (shape : Shape) → form.shape ≡ shape
    → tree_text (bare_tree (form_tree form)) ≡ tree_text (bare_tree (shape_tree shape form.start form.end))
shaped form shape is = ap (λ (s : Shape). tree_text (bare_tree (shape_tree s form.start form.end))) is

pub list_text : (form : Form) (forms : Vec Form Global) (items : List Form) → form.shape ≡ code.List forms
    → items ≡ forms.items
    → tree_text (Branch Round (bare_trees (form_trees items))) ≡ tree_text (bare_tree (form_tree form))
list_text form forms items is same =
    ap (λ (all : List Form). tree_text (Branch Round (bare_trees (form_trees all)))) same
    ∙ sym (shaped form (code.List forms) is
    ∙ ap (λ (tree : FormTree). tree_text (bare_tree tree)) (list_tree forms form.start form.end))

pub vector_text : (form : Form) (forms : Vec Form Global) (items : List Form) → form.shape ≡ code.Vector forms
    → items ≡ forms.items
    → tree_text (Branch Square (bare_trees (form_trees items))) ≡ tree_text (bare_tree (form_tree form))
vector_text form forms items is same =
    ap (λ (all : List Form). tree_text (Branch Square (bare_trees (form_trees all)))) same
    ∙ sym (shaped form (code.Vector forms) is
    ∙ ap (λ (tree : FormTree). tree_text (bare_tree tree)) (vector_tree forms form.start form.end))

pub map_text : (form : Form) (forms : Vec Form Global) (items : List Form) → form.shape ≡ code.Map forms
    → items ≡ forms.items
    → tree_text (Branch Curly (bare_trees (form_trees items))) ≡ tree_text (bare_tree (form_tree form))
map_text form forms items is same =
    ap (λ (all : List Form). tree_text (Branch Curly (bare_trees (form_trees all)))) same
    ∙ sym (shaped form (code.Map forms) is
    ∙ ap (λ (tree : FormTree). tree_text (bare_tree tree)) (map_tree forms form.start form.end))

-- one form more

abbrev written : Form → List ℕ
written form = tree_text (bare_tree (form_tree form))

abbrev following : List Form → List ℕ
following forms = later_text (bare_trees (form_trees forms))

abbrev lines : List Form → List ℕ
lines forms = lines_text (bare_trees (form_trees forms))

following_push : (forms : List Form) (form : Form)
    → following (forms ++ form ∷ []) ≡ (following forms ++ 32 ∷ []) ++ written form
following_push [] form = ap (λ (text : List ℕ). 32 ∷ text) (append-nil (written form))
following_push (first ∷ forms) form =
    ap (λ (text : List ℕ). 32 ∷ (written first ++ text)) (following_push forms form)
    ∙ ap (λ (text : List ℕ). 32 ∷ text) (sym (append_assoc (written first) (following forms ++ 32 ∷ []) (written form))
    ∙ ap (λ (text : List ℕ). text ++ written form) (sym (append_assoc (written first) (following forms) (32 ∷ []))))

lines_push : (forms : List Form) (form : Form) → lines (forms ++ form ∷ []) ≡ (lines forms ++ written form) ++ 10 ∷ []
lines_push [] form = refl
lines_push (first ∷ forms) form =
    ap (λ (text : List ℕ). written first ++ 10 ∷ text) (lines_push forms form)
    ∙ sym (append_assoc (written first) (10 ∷ (lines forms ++ written form)) (10 ∷ []))
    ∙ ap (λ (text : List ℕ). text ++ 10 ∷ []) (sym (append_assoc (written first) (10 ∷ lines forms) (written form)))

taken_more : (forms : List Form) (i : ℕ) (form : Form) → i < length forms → form ≡ get_or forms i form
    → take (i + 1) forms ≡ take i forms ++ form ∷ []
taken_more forms i form inside is =
    take_more forms i form inside ∙ ap (λ (last : Form). take i forms ++ last ∷ []) (sym is)

pub lines_all : (forms : List Form) → lines (take (length forms) forms) ≡ lines forms
lines_all forms = ap lines (take-length forms)

pub following_all : (forms : List Form) → following (take (length forms) forms) ≡ following forms
following_all forms = ap following (take-length forms)

pub lines_step : (first out put final : List ℕ) (forms : List Form) (i : ℕ) (form : Form)
    → out ≡ first ++ lines (take i forms) → put ≡ out ++ written form → final ≡ put ++ 10 ∷ []
    → i < length forms → form ≡ get_or forms i form → final ≡ first ++ lines (take (i + 1) forms)
lines_step first out put final forms i form before wrote ended inside is =
    let so_far = lines (take i forms) in
    ended
    ∙ ap (λ (text : List ℕ). text ++ 10 ∷ [])
    (wrote ∙ ap (λ (text : List ℕ). text ++ written form) before ∙ append_assoc first so_far (written form))
    ∙ append_assoc first (so_far ++ written form) (10 ∷ [])
    ∙ ap (λ (text : List ℕ). first ++ text)
    (sym (ap lines (taken_more forms i form inside is) ∙ lines_push (take i forms) form))

pub following_step : (first initial out put final : List ℕ) (forms : List Form) (i : ℕ) (form : Form)
    → IsPrefix first out × (out ≡ initial ++ following (take i forms)) → put ≡ out ++ 32 ∷ []
    → final ≡ put ++ written form
    → i < length forms → form ≡ get_or forms i form
    → IsPrefix first final × (final ≡ initial ++ following (take (i + 1) forms))
following_step first initial out put final forms i form before blank wrote inside is =
    let so_far = following (take i forms) in
    let all : final ≡ (out ++ 32 ∷ []) ++ written form = wrote ∙ ap (λ (text : List ℕ). text ++ written form) blank in
    let grown : final ≡ first ++ ((before.0.0 ++ 32 ∷ []) ++ written form) =
    all ∙ ap (λ (text : List ℕ). (text ++ 32 ∷ []) ++ written form) before.0.1
    ∙ ap (λ (text : List ℕ). text ++ written form) (append_assoc first before.0.0 (32 ∷ []))
    ∙ append_assoc first (before.0.0 ++ 32 ∷ []) (written form) in
    let same : final ≡ initial ++ ((so_far ++ 32 ∷ []) ++ written form) =
    all ∙ ap (λ (text : List ℕ). (text ++ 32 ∷ []) ++ written form) before.1
    ∙ ap (λ (text : List ℕ). text ++ written form) (append_assoc initial so_far (32 ∷ []))
    ∙ append_assoc initial (so_far ++ 32 ∷ []) (written form) in (
      ((before.0.0 ++ 32 ∷ []) ++ written form, grown),
      same
          ∙ ap (λ (text : List ℕ). initial ++ text)
          (sym (ap following (taken_more forms i form inside is) ∙ following_push (take i forms) form)),
    )
