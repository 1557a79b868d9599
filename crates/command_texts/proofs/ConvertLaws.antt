-- How a call of the command ends.
use Rattle.std.proofs.Common.{◌≡◌, ℕ, ◌+◌, ◌<◌, ◌⊎◌, List, [], ◌∷◌, ◌++◌, length, take, get_or, Option}
use Rattle.std.proofs.Common.{Err, refl, sym, ◌∙◌, ap, arith, inl, inr, append-nil}
use Rattle.std.proofs.lemmas.Grind.{flat_map-append}
use Rattle.std.specs.Borrow.{Bor}
use Rattle.std.proofs.lemmas.List.{get_or_default, take_more}
use Rattle.command_io.proofs.EndingLaws.{not_over, reported_of}
use Rattle.command_io.specs.Endings.{Says, status_of}
use Rattle.command_io.specs.Fetches.{ending_of_file}
use Rattle.command_io.specs.Files.{IsFileFault, ReadMore, good_read, reads_of}
use Rattle.command_io.specs.Reports.{Reports}
use Rattle.command_io.specs.declared.limits.TheConstants.{FILE_LIMIT}
use Rattle.command_io.specs.declared.read.FileFault.{FileFault}
use Rattle.command_io.specs.declared.read.FileFault.TheVariants as file
use Rattle.command_io.specs.declared.status.Status.{Status}
use Rattle.command_io.specs.declared.status.Status.TheVariants.{Done, Usage, Config, ReadFault, SinkFault, LinkFault}
use Rattle.command_io.specs.declared.status.Status.TheVariants.{Memory, Script, Truncated, TooLong, Lines, Tests}
use Rattle.command_io.specs.declared.status.Status.TheVariants.{Verdict, Unanswered, BadReply, Journal, DiskFault}
use Rattle.graphite_lines.specs.Frames.{FramesAreReadBack, frames_in, refused_lines}
use Rattle.graphite_lines.specs.declared.bad.BadLine.{BadLine}
use Rattle.ports.specs.Counts.{IsStill, Rose}
use Rattle.ports.specs.Writing.{SinkReport}
use Rattle.ports.specs.declared.store.StoreRead.{StoreRead}
use Rattle.command_texts.specs.Converts.{ConvertCompletes, ConvertEnds, ConvertsText, IsConverted}
use Rattle.command_texts.specs.Converts.{IsText, ReadsOnce, refused_line, refused_text}
use Rattle.command_texts.specs.Writing.{Writes}

-- ---- the lines of refused lines

pub no_text : (bad : List BadLine) → refused_text bad ≡ [] → bad ≡ []
no_text [] h = refl
no_text (line ∷ bad) h = cc

pub some_text : (bad : List BadLine) → (refused_text bad ≡ [] → ⊥) → bad ≡ [] → ⊥
some_text [] h e = h refl
some_text (line ∷ bad) h e = cc

pub next_line : (bad : List BadLine) (i : ℕ) (line : BadLine) → i < length bad → line ≡ get_or bad i line
    → refused_text (take (i + 1) bad) ≡ refused_text (take i bad) ++ refused_line line
next_line bad i line inside is =
    let front : take (i + 1) bad ≡ take i bad ++ line ∷ [] =
    take_more bad i line inside ∙ ap (λ x. take i bad ++ x ∷ []) (sym is) in
    ap refused_text front ∙ flat_map-append refused_line (take i bad) (line ∷ [])
    ∙ ap (λ more. refused_text (take i bad) ++ more) (append-nil (refused_line line))

pub lines_grow : (bad : List BadLine) (i : ℕ) (default : BadLine) (old new : List ℕ) → i < length bad
    → old ≡ refused_text (take i bad) → new ≡ old ++ refused_line (get_or bad i default)
    → new ≡ refused_text (take (i + 1) bad)
lines_grow bad i default old new inside front more =
    let line = get_or bad i default in
    more ∙ ap (λ lines. lines ++ refused_line line) front
    ∙ sym (next_line bad i line inside (get_or_default bad i default line inside))

-- ---- once the text is read

pub text_ends : FramesAreReadBack
    → (host_part : Option ℕ) (text frames lines : List ℕ) (out out' err err' : SinkReport) (status : Status)
    → frames ≡ frames_in host_part text → lines ≡ refused_text (refused_lines host_part text)
    → Writes frames lines out out' err err' status → ConvertsText host_part text out out' err err' status
text_ends law host_part text frames lines out out' err err' Done f l w = (
  no_text (refused_lines host_part text) (sym l ∙ w.0),
  record { all = rw f at w.1; read_back = law host_part text },
  w.2,
)
text_ends law host_part text frames lines out out' err err' Lines f l w = (
  some_text (refused_lines host_part text) (λ e. w.0 (l ∙ e)),
  record { all = rw f at w.1; read_back = law host_part text },
  rw l at w.2,
)
text_ends law host_part text frames lines out out' err err' SinkFault f l (inl cut) = inl (rw f at cut.0, cut.1)
text_ends law host_part text frames lines out out' err err' SinkFault f l (inr w) =
    inr (
      some_text (refused_lines host_part text) (λ e. w.0 (l ∙ e)),
      record { all = rw f at w.1; read_back = law host_part text },
      rw l at w.2,
    )
text_ends law host_part text frames lines out out' err err' Memory f l w = absurd w
text_ends law host_part text frames lines out out' err err' _ f l w = w

-- ---- the command

pub converted_ends : (name : List ℕ) (host_part : Option ℕ) (old new : Reports) (text : List ℕ) (status : Status)
    → IsText name old.store new.store text
    → ConvertsText host_part text old.out new.out old.err new.err status → ConvertEnds name host_part old new status
converted_ends name host_part old new text Done is ends = (text, is, ends)
converted_ends name host_part old new text Lines is ends = (text, is, ends)
converted_ends name host_part old new text SinkFault is ends = (text, is, ends)
converted_ends name host_part old new text Memory is ends = (ends.0, ends.1, inr (text, is.0))
converted_ends name host_part old new text _ is ends = absurd ends

pub converted_reads : (name : List ℕ) (host_part : Option ℕ) (text : List ℕ) (out out' err err' : SinkReport)
    (reads reads' : Option (List StoreRead)) (status : Status)
    → ConvertsText host_part text out out' err err' status → ReadMore (good_read name ∷ []) reads reads'
    → ReadsOnce name reads reads' status
converted_reads name host_part text out out' err err' reads reads' Memory ends grew = inr grew
converted_reads name host_part text out out' err err' reads reads' ReadFault ends grew = absurd ends
converted_reads name host_part text out out' err err' reads reads' _ ends grew = grew

-- the file was not read
pub fault_ends : (name : List ℕ) (shown : Bor (List ℕ)) (host_part : Option ℕ) (old new : Reports) (fault : FileFault)
    → shown.now ≡ name
    → IsFileFault name FILE_LIMIT old.store new.store fault
    → new.out ≡ old.out
    → Says (ending_of_file shown FILE_LIMIT fault) old.err new.err
    → ConvertEnds name host_part old new (status_of (ending_of_file shown FILE_LIMIT fault))
fault_ends name shown host_part old new file.Unread is cause same says = (cause.0, same, rw is at says, cause.1)
fault_ends name shown host_part old new file.TooLong is cause same says =
    (cause.0, cause.1, same, rw is at says, cause.2)
fault_ends name shown host_part old new file.Memory is cause same says = (same, says, inl cause)

pub fault_reads : (name : List ℕ) (shown : Bor (List ℕ)) (reads reads' : Option (List StoreRead)) (fault : FileFault)
    → ReadMore (reads_of name (Err fault)) reads reads'
    → ReadsOnce name reads reads' (status_of (ending_of_file shown FILE_LIMIT fault))
fault_reads name shown reads reads' file.Memory grew = inl grew
fault_reads name shown reads reads' _ grew = grew

pub fault_not_converted : (shown : Bor (List ℕ)) (fault : FileFault)
    → IsConverted (status_of (ending_of_file shown FILE_LIMIT fault)) → ⊥
fault_not_converted shown file.Unread done = done
fault_not_converted shown _ done = done

-- ---- completeness

sink_rose : (host_part : Option ℕ) (text : List ℕ) (out out' err err' : SinkReport)
    → ConvertsText host_part text out out' err err' SinkFault
    → IsStill out.faults out'.faults → IsStill err.faults err'.faults → ⊥
sink_rose host_part text out out' err err' (inl cut) out_still err_still =
    let rose : Rose out.faults out'.faults = cut.0.fault in omega (arith, rose, out_still.0, out_still.1)
sink_rose host_part text out out' err err' (inr cut) out_still err_still =
    let rose : Rose err.faults err'.faults = cut.2.fault in omega (arith, rose, err_still.0, err_still.1)

pub sink_fault : (host_part : Option ℕ) (text : List ℕ) (out out' err err' : SinkReport)
    → ConvertsText host_part text out out' err err' SinkFault
    → Rose out.faults out'.faults ⊎ Rose err.faults err'.faults
sink_fault host_part text out out' err err' (inl cut) = inl cut.0.fault
sink_fault host_part text out out' err err' (inr cut) = inr cut.2.fault

pub convert_complete : (name : List ℕ) (host_part : Option ℕ) (old new : Reports) (status : Status)
    → ConvertEnds name host_part old new status
    → ConvertCompletes name host_part old new status
convert_complete name host_part old new Done ends text holds fits read_still put_still err_still =
    reported_of name old.store new.store text (λ t. refused_lines host_part t ≡ []) holds
    (ends.0, ends.1.0, ends.2.0)
convert_complete name host_part old new Lines ends text holds fits read_still put_still err_still =
    reported_of name old.store new.store text (λ t. refused_lines host_part t ≡ [] → ⊥) holds
    (ends.0, ends.1.0, ends.2.0)
convert_complete name host_part old new SinkFault ends text holds fits read_still put_still err_still =
    absurd (sink_rose host_part ends.0 old.out new.out old.err new.err ends.2 put_still err_still)
convert_complete name host_part old new Memory ends text holds fits read_still put_still err_still = tt
convert_complete name host_part old new ReadFault ends text holds fits read_still put_still err_still =
    let rose : Rose old.store.faults new.store.faults = ends.0 in omega (arith, rose, read_still.0, read_still.1)
convert_complete name host_part old new TooLong ends text holds fits read_still put_still err_still =
    not_over (old.store.held name) text FILE_LIMIT holds fits ends.0
convert_complete name host_part old new _ ends text holds fits read_still put_still err_still = ends.2
