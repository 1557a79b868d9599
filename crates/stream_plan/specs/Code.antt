-- Trees are compared by the marks that they are written as, in order. A value that contracts see has to
-- come with such a way, beside which they don't look at it.
use Rattle.std.specs.Prelude.{◌≡◌, List, [], ◌∷◌, ◌++◌, refl}
use Rattle.std.proofs.Common.{ap, ◌∙◌, append_assoc}
use Rattle.std.specs.Coded.{Coded, code_by, coded_list}
use Rattle.stream_plan.specs.Tree.{KindTree, StreamTree, stream, StreamTrees, none, also}

-- a mark for each stream, and one at the end of each list
pub data Mark : Type 0 where
  Last : Mark
  Here : KindTree → Mark

abbrev mutual
  stream_marks : StreamTree → List Mark
  stream_marks (stream kind children otherwise) = Here kind ∷ (streams_marks children ++ streams_marks otherwise)

  streams_marks : StreamTrees → List Mark
  streams_marks none = Last ∷ []
  streams_marks (also s streams) = stream_marks s ++ streams_marks streams

abbrev built : KindTree → List StreamTrees → List StreamTrees
built kind [] = []
built kind (children ∷ []) = []
built kind (children ∷ otherwise ∷ []) = []
built kind (children ∷ otherwise ∷ streams ∷ lists) = also (stream kind children otherwise) streams ∷ lists

abbrev stream_lists : List Mark → List StreamTrees
stream_lists [] = []
stream_lists (Last ∷ ms) = none ∷ stream_lists ms
stream_lists (Here kind ∷ ms) = built kind (stream_lists ms)

mutual
  back-stream : (s : StreamTree) (ms : List Mark) (streams : StreamTrees) (lists : List StreamTrees) →
      stream_lists ms ≡ streams ∷ lists →
      stream_lists (stream_marks s ++ ms) ≡ also s streams ∷ lists
  back-stream (stream kind children otherwise) ms streams lists is =
      ap (λ more. built kind (stream_lists more)) (append_assoc (streams_marks children) (streams_marks otherwise) ms)
      ∙ ap (built kind)
      (back-streams children (streams_marks otherwise ++ ms)
      ∙ ap (λ rest. children ∷ rest) (back-streams otherwise ms ∙ ap (λ rest. otherwise ∷ rest) is))

  back-streams : (streams : StreamTrees) (ms : List Mark)
      → stream_lists (streams_marks streams ++ ms) ≡ streams ∷ stream_lists ms
  back-streams none ms = refl
  back-streams (also s streams) ms =
      ap stream_lists (append_assoc (stream_marks s) (streams_marks streams) ms)
      ∙ back-stream s (streams_marks streams ++ ms) streams (stream_lists ms) (back-streams streams ms)

abbrev first_streams : List StreamTrees → StreamTrees
first_streams [] = none
first_streams (streams ∷ lists) = streams

streams_of_marks : List Mark → StreamTrees
streams_of_marks ms = first_streams (stream_lists (ms ++ []))

streams_of_marks-marks : (streams : StreamTrees) → streams_of_marks (streams_marks streams) ≡ streams
unfolding streams_of_marks
streams_of_marks-marks streams = ap first_streams (back-streams streams [])

pub streams_code : Coded Mark → Coded StreamTrees
streams_code mark = code_by (List Mark) (coded_list mark) streams_marks streams_of_marks streams_of_marks-marks
