use Rattle.std.proofs.Common.{sym, ap, ◌∙◌, Ok}
use Rattle.config_streams.specs.Made.{located_in}
use Rattle.sexp_config.proofs.PlanLaws.{sound_plan, refused_plan}
use Rattle.sexp_config.proofs.PlansBuilt.{is_left}
use Rattle.sexp_config.proofs.finish.checked.Goals as goal

pub returns-in-Ok : goal.returns-in-Ok
returns-in-Ok c = sound_plan (located_in c.args.located) c.in-Ok.ensures.faultless ∙ ap Ok (sym c.in-Ok.ensures.ok)

pub returns-in-Err-Refused : goal.returns-in-Err-Refused
returns-in-Err-Refused c =
    let known = rw c.in-Err-Refused.field-0-is at c.in-Err-Refused.ensures.refused in
    let place = rw (c.deref.ensures.value, c.as_slice.ensures) at c.place_along.ensures in
    refused_plan (located_in c.args.located) _ _ _ _ known place c.fault_of.ensures

pub fault_of-requires : goal.fault_of-requires
fault_of-requires c =
    let known = rw c.in-Err-Refused.field-0-is at c.in-Err-Refused.ensures.refused in
    is_left (located_in c.args.located).streams _ _ c.requires known
