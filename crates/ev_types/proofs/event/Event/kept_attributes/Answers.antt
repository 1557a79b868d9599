use Rattle.std.proofs.Common.{[], ◌∷◌, ◌++◌, take, sym, ap, ◌∙◌}
use Rattle.std.proofs.lemmas.List.{take_more}
use Rattle.ev_types.specs.Rebirth.{kept_attributes, attribute_key, with_key}
use Rattle.ev_types.proofs.RebirthLaws.{kept_attributes-append}
use Rattle.ev_types.proofs.event.Event.kept_attributes.Goals as goal

pub loop-key-preserved : goal.loop-key-preserved
loop-key-preserved c =
    let event = c.args.self.now in
    let keep = c.args.keep.now in
    let i = c.loop-key.key-index in
    let key = c.key-item.result in
    c.in_ok-keep_attribute.ensures
    ∙ ap (with_key event (attribute_key key)) c.loop-key.invariant
    ∙ kept_attributes-append event (take i keep) key
    ∙ ap (λ keys. kept_attributes keys event)
    (ap (λ last. take i keep ++ last ∷ []) c.key-item.is ∙ sym (take_more keep i key c.loop-key-test.true))
