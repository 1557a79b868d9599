-- What came of the sends since the last record, by link.
use Rattle.std.specs.Prelude.{◌≡◌, ℕ, ◌+◌, ◌^◌, ◌<◌, ◌==◌, Bool, ◌&&◌, nat_lt, if◌then◌else◌, List, [], ◌∷◌, ◌++◌}
use Rattle.std.specs.Prelude.{length, position, slice_index_or, slice_set, Option, Some, None}
use Rattle.journal_format.specs.Limits.{summary_limit}
use Rattle.journal_format.specs.declared.turn_record.SendEnd.{SendEnd}
use Rattle.journal_format.specs.declared.turn_record.SendEnd.TheVariants as end
use Rattle.journal_format.specs.declared.turn_record.Summary.{Summary}
use Rattle.ports.specs.declared.links.SendAnswer.{SendAnswer}
use Rattle.ports.specs.declared.links.SendAnswer.TheVariants.{Took, Later, Failed, Memory}

-- the number of bytes that a send took
abbrev pub taken_by : SendAnswer → ℕ
taken_by (Took count) = count
taken_by Later = 0
taken_by Failed = 0
taken_by Memory = 0

-- how a send was answered
abbrev pub end_of : SendAnswer → SendEnd
end_of (Took count) = if count == 0 then end.Later else end.Took
end_of Later = end.Later
end_of Failed = end.Failed
end_of Memory = end.Later

-- what came of one send
abbrev pub summary_of : ℕ → SendAnswer → Summary
summary_of link answer = record { link = link; taken = taken_by answer; end = end_of answer }

abbrev pub is_of : ℕ → Summary → Bool
is_of link summary = summary.link == link

-- where the summary of the link is, if it has one
abbrev pub place_of : ℕ → List Summary → Option ℕ
place_of link summaries = position (is_of link) summaries

abbrev pub nothing_sent : Summary
nothing_sent = record { link = 0; taken = 0; end = end.Later }

abbrev pub summary_at : List Summary → ℕ → Summary
summary_at summaries place = slice_index_or summaries place nothing_sent

-- the summary of a link after one send more
abbrev pub merged : Summary → Summary → Summary
merged before sent = record { link = before.link; taken = before.taken + sent.taken; end = sent.end }

-- the summaries after one send more. Where all places are taken, one on another link is left out.
abbrev pub noted_at : Option ℕ → Summary → List Summary → List Summary
noted_at None sent summaries = if nat_lt (length summaries) summary_limit then summaries ++ sent ∷ [] else summaries
noted_at (Some place) sent summaries = slice_set summaries place (merged (summary_at summaries place) sent)

abbrev pub noted : Summary → List Summary → List Summary
noted sent summaries = noted_at (place_of sent.link summaries) sent summaries

-- the summaries after a call of `send`
abbrev pub after_send : ℕ → SendAnswer → List Summary → List Summary
after_send link (Took count) summaries = noted (summary_of link (Took count)) summaries
after_send link Later summaries = noted (summary_of link Later) summaries
after_send link Failed summaries = noted (summary_of link Failed) summaries
after_send link Memory summaries = summaries

-- Whether a send of so many bytes can be noted: its link has a summary, or there is room for one, and the sum of the
-- bytes is a number of 64 bits.
abbrev pub may_note_at : Option ℕ → ℕ → List Summary → Bool
may_note_at None count summaries = nat_lt (length summaries) summary_limit
may_note_at (Some place) count summaries =
    nat_lt (let summary = summary_at summaries place in summary.taken + count) (2 ^ 64)

abbrev pub may_note : ℕ → ℕ → List Summary → Bool
may_note link count summaries = may_note_at (place_of link summaries) count summaries

-- the bytes of the link with so many more are a number of 64 bits
abbrev pub Fits : ℕ → ℕ → List Summary → Type 0
Fits link count summaries =
    (place : ℕ) → place_of link summaries ≡ Some place
    → (let summary = summary_at summaries place in summary.taken + count < 2 ^ 64)

-- whether the numbers of a summary have 64 bits
abbrev pub has_words : Summary → Bool
has_words summary = nat_lt summary.link (2 ^ 64) && nat_lt summary.taken (2 ^ 64)
