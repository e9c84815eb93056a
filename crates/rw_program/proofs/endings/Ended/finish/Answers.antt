use Rattle.rw_program.proofs.Telling.{says}
use Rattle.rw_program.proofs.endings.Ended.finish.Goals as goal

pub returns-clause-says : goal.returns-clause-says
returns-clause-says g c = says _ _ _ c.tell.result c.tell.ensures.ok c.tell.ensures.short c.tell.ensures.err
