use Rattle.std.proofs.Common.{◌≡◌, true, List, get_or, set, rules, ◌∙◌, sym, subst}
use Rattle.std.specs.List.{list_all}
use Rattle.std.proofs.lemmas.List.{get_or_default}
use Rattle.std.proofs.lemmas.List.Quantifiers.{position-Some}
use Rattle.journal_format.specs.Spelling.{are_distinct}
use Rattle.journal_format.specs.declared.turn_record.Summary.{Summary}
use Rattle.recorded_links.specs.Sending.{has_words, is_of, merged, nothing_sent, summary_at}
use Rattle.recorded_links.proofs.SendLaws.{merged_distinct, merged_words, more_words, noted_distinct}
use Rattle.recorded_links.proofs.sends.Sends.note_summary.Goals as goal

pub invariant_of-self-clause-words : goal.invariant_of-self-clause-words
invariant_of-self-clause-words c =
    let sent : Summary = record { link = c.args.link; taken = c.args.taken; end = c.args.end } in
    let items = c.args.self.now.summaries.items in
    let within = position-Some (is_of c.args.link) items c.in-Some.place nothing_sent
    (sym c.place_of.ensures ∙ c.in-Some.is) in
    let itself : c.index-before.result.now ≡ get_or items c.in-Some.place c.index-before.result.now = search rules in
    let at : c.index-before.result.now ≡ summary_at items c.in-Some.place =
    itself ∙ get_or_default items c.in-Some.place c.index-before.result.now nothing_sent within.0 in
    subst (λ (before : Summary). list_all has_words
    (set c.args.self.now.summaries.items c.in-Some.place (merged before sent)) ≡ true) (sym at)
    (merged_words c.args.self.now.summaries.items c.in-Some.place sent c.args.self.now.words
    (sym c.place_of.ensures ∙ c.in-Some.is) c.requires.fits)

pub invariant_of-self-clause-distinct : goal.invariant_of-self-clause-distinct
invariant_of-self-clause-distinct c =
    let sent : Summary = record { link = c.args.link; taken = c.args.taken; end = c.args.end } in
    let items = c.args.self.now.summaries.items in
    let within = position-Some (is_of c.args.link) items c.in-Some.place nothing_sent
    (sym c.place_of.ensures ∙ c.in-Some.is) in
    let itself : c.index-before.result.now ≡ get_or items c.in-Some.place c.index-before.result.now = search rules in
    let at : c.index-before.result.now ≡ summary_at items c.in-Some.place =
    itself ∙ get_or_default items c.in-Some.place c.index-before.result.now nothing_sent within.0 in
    subst (λ (before : Summary). are_distinct
    (set c.args.self.now.summaries.items c.in-Some.place (merged before sent)) ≡ true) (sym at)
    (merged_distinct c.args.self.now.summaries.items c.in-Some.place sent c.args.self.now.distinct)

pub invariant_of-self-then-len-lt-SUMMARY_LIMIT-clause-words :
    goal.invariant_of-self-then-len-lt-SUMMARY_LIMIT-clause-words
invariant_of-self-then-len-lt-SUMMARY_LIMIT-clause-words c =
    subst (λ (items : List Summary). list_all has_words items ≡ true) (sym c.push_reserved.ensures.items)
    (more_words c.args.self.now.summaries.items (record { link = c.args.link; taken = c.args.taken; end = c.args.end })
    c.args.self.now.words (search rules) (search rules))

pub invariant_of-self-then-len-lt-SUMMARY_LIMIT-clause-distinct :
    goal.invariant_of-self-then-len-lt-SUMMARY_LIMIT-clause-distinct
invariant_of-self-then-len-lt-SUMMARY_LIMIT-clause-distinct c =
    subst (λ (items : List Summary). are_distinct items ≡ true) (sym c.push_reserved.ensures.items)
    (noted_distinct c.args.self.now.summaries.items
    (record { link = c.args.link; taken = c.args.taken; end = c.args.end }) c.args.self.now.distinct
    (sym c.place_of.ensures ∙ c.in-None.is))
