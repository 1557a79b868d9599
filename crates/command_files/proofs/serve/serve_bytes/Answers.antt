use Rattle.command_files.proofs.serve.serve_bytes.Goals as goal

pub returns-in-Ok-clause-ends : goal.returns-in-Ok-clause-ends
returns-in-Ok-clause-ends g c = λ store store' links.
    c.serve_links.ensures.ends c.args.bytes store store' links c.in-Ok.ensures.script
    (rw c.as_slice.ensures at c.bytes_left-left.ensures)
