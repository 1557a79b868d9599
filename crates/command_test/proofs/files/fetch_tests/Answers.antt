use Rattle.command_test.proofs.FileLaws.{file_read, no_tests_of_file, no_tests_read, tests_file_refused, tests_of_file}
use Rattle.command_test.proofs.FileLaws.{tests_unread}
use Rattle.command_test.proofs.files.fetch_tests.Goals as goal

pub returns-in-Ok-clause-tests : goal.returns-in-Ok-clause-tests
returns-in-Ok-clause-tests g c =
    tests_of_file c.args.name.now c.in-Ok.text (g.S.Store.report c.args.store.now)
    (g.S.Store.report c.read_file.new.store) (c.in-Ok.ensures.file, c.in-Ok.ensures.within) c.read_text.result
    (rw c.as_slice.ensures at c.read_text.ensures.tests)

pub returns-in-Ok-clause-refused : goal.returns-in-Ok-clause-refused
returns-in-Ok-clause-refused g c =
    no_tests_of_file c.args.name.now c.in-Ok.text (g.S.Store.report c.args.store.now)
    (g.S.Store.report c.read_file.new.store) (c.in-Ok.ensures.file, c.in-Ok.ensures.within) c.read_text.result
    (rw c.as_slice.ensures at c.read_text.ensures.refused)

pub returns-in-Ok-clause-read : goal.returns-in-Ok-clause-read
returns-in-Ok-clause-read g c = file_read c.args.name.now _ _ c.read_text.result c.in-Ok.ensures.reads

pub returns-in-Ok-clause-reads : goal.returns-in-Ok-clause-reads
returns-in-Ok-clause-reads g c =
    no_tests_read c.args.name.now c.in-Ok.text _ _ c.read_text.result
    (rw c.as_slice.ensures at c.read_text.ensures.refused) c.in-Ok.ensures.reads

pub returns-in-Err-clause-refused : goal.returns-in-Err-clause-refused
returns-in-Err-clause-refused g c =
    rw c.ending.ensures (tests_file_refused c.args.name.now c.as_str.result (g.S.Store.report c.args.store.now)
    (g.S.Store.report c.read_file.new.store) c.in-Err.fault
    c.as_str.ensures c.in-Err.ensures.fault)

pub returns-in-Err-clause-reads : goal.returns-in-Err-clause-reads
returns-in-Err-clause-reads g c =
    rw c.ending.ensures (tests_unread c.args.name.now c.as_str.result _ _ c.in-Err.fault c.in-Err.ensures.reads)
