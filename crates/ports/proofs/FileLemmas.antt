-- How the first file with a name is found, file by file.
use Rattle.std.proofs.Common.{◌≡◌, ℕ, ◌+◌, ◌<◌, List, Some, false, if◌then◌else◌, length, drop, get_or, refl, drop-cons}
use Rattle.std.proofs.Common.{add-one}
use Rattle.std.specs.Str.{bytes_eq}
use Rattle.std.proofs.lemmas.Slice.Eq.{bytes_eq-Decides}
use Rattle.std.proofs.lemmas.Bool.Decides.{same_from_decides}
use Rattle.ports.specs.Files.{NamedFile, held_in}

held_in-drop : (files : List NamedFile) (i : ℕ) (file : NamedFile) (name : List ℕ) → i < length files
    → file ≡ get_or files i file
    → held_in (drop i files) name ≡ (if bytes_eq file.0 name then Some file.1 else held_in (drop (i + 1) files) name)
held_in-drop files i file name below is = rw (add-one, drop-cons files i file, ← is) refl

-- the file at this place has the name
pub held_in-drop_same : (files : List NamedFile) (i : ℕ) (file : NamedFile) (name : List ℕ) → i < length files
    → file ≡ get_or files i file → file.0 ≡ name → held_in (drop i files) name ≡ Some file.1
held_in-drop_same files i file name below is same =
    rw (held_in-drop files i file name below is, (bytes_eq-Decides file.0 name).1 same) refl

-- it has another name
pub held_in-drop_other : (files : List NamedFile) (i : ℕ) (file : NamedFile) (name : List ℕ) → i < length files
    → file ≡ get_or files i file → (file.0 ≡ name → ⊥)
    → held_in (drop i files) name ≡ held_in (drop (i + 1) files) name
held_in-drop_other files i file name below is other =
    let differs : bytes_eq file.0 name ≡ false =
    same_from_decides (bytes_eq file.0 name) false (bytes_eq-Decides file.0 name)
    ((λ h. cc), (λ h. absurd (other h))) in
    rw (held_in-drop files i file name below is, differs) refl
