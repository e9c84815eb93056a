use Rattle.rw_world.proofs.Parting.{parts_of_legal, legal_of_parts}
use Rattle.rw_world.proofs.laws.legal_by_parts.Goals as goal

pub returns : goal.returns
returns g c xs es =
    let m = g.M.Reversible in
    let missing = g.M.Member.missing in
    (parts_of_legal m missing g.met.M.Member.missing_strays xs es, legal_of_parts m missing xs es)
