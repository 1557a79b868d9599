use Rattle.std.proofs.Common.{ap, ◌∙◌}
use Rattle.packed_event.specs.Reading.{optional, text_part}
use Rattle.packed_event.proofs.Unpacked.{name_stages}
use Rattle.packed_event.proofs.unpack.read_names.Goals as goal

pub returns : goal.returns
returns c =
    λ total read e.
    let s = name_stages total c.args.bytes.now read e in
    let time = c.read_time-after_time.ensures s.time s.time_read in
    let state = c.in_ok-after_state.ensures s.state (ap (optional 18 text_part) time.0 ∙ s.state_read) in
    let service = c.in_ok-after_service.ensures s.service (ap (optional 26 text_part) state.0 ∙ s.service_read) in
    let host = c.in_ok-after_host.ensures s.host (ap (optional 34 text_part) service.0 ∙ s.host_read) in
    let description =
    c.in_ok-rest.ensures s.description (ap (optional 42 text_part) host.0 ∙ s.description_read) in (
      description.0 ∙ s.rest,
      rw (time.1, state.1, service.1, host.1, description.1) (s.named c.args.event.now),
    )
