use Rattle.session_file.proofs.Wholes.{whole_only}
use Rattle.session_file.proofs.session.read_session.Goals as goal

pub returns-clause-only : goal.returns-clause-only
returns-clause-only c = whole_only c.session_of.result c.args.file.now c.session_of.ensures
