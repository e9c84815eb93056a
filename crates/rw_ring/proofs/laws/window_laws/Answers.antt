use Rattle.rw_ring.proofs.Windows.{unput_undoes_put, put_fits_unput, put_keeps_the_last, reads_by_position}
use Rattle.rw_ring.proofs.laws.window_laws.Goals as goal

pub returns-clause-undoes : goal.returns-clause-undoes
returns-clause-undoes g c = unput_undoes_put

pub returns-clause-fits : goal.returns-clause-fits
returns-clause-fits g c = put_fits_unput

pub returns-clause-last : goal.returns-clause-last
returns-clause-last g c = put_keeps_the_last

pub returns-clause-position : goal.returns-clause-position
returns-clause-position g c = reads_by_position
