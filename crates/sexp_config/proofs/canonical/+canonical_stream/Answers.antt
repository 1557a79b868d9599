use Rattle.std.proofs.Common.{◌∙◌}
use Rattle.std.proofs.lemmas.Result.{IfOk-weaker}
use Rattle.sexp_config.proofs.CanonicalLaws.{stream_index, stream_listed, else_put, streams_step}
use Rattle.sexp_config.proofs.canonical.+canonical_stream.Goals as goal

pub put_else-returns : goal.put_else-returns
put_else-returns t c =
    else_put c.args.streams.now _ _ _ _ _ _ c.is_empty.ensures c.if-is_empty.false c.in_ok-rest.ensures
    c.in_ok-put_streams.ensures c.list.ensures c.in_ok-put.ensures

pub stream_form-returns-in-Index : goal.stream_form-returns-in-Index
stream_form-returns-in-Index t c =
    IfOk-weaker c.symbol.result _ _ (λ form known. known ∙ stream_index c.args.stream.now c.in-Index.is)
    c.symbol.ensures

pub stream_form-returns : goal.stream_form-returns
stream_form-returns t c =
    c.list.ensures
    ∙ stream_listed c.args.stream.now _ _ _ _ _ c.in_default.not-Index c.deref.ensures.value c.deref-2.ensures.value
    c.in_ok-forms.ensures c.in_ok-put_streams.ensures c.in_ok-put_else.ensures

pub put_streams-loop-stream-preserved : goal.put_streams-loop-stream-preserved
put_streams-loop-stream-preserved t c =
    streams_step _ _ _ _ _ _ _ c.loop-stream.invariant c.in_ok-form.ensures c.in_ok-put.ensures c.loop-stream-test.true
    c.stream-item.is
