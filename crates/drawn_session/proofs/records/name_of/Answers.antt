use Rattle.std.proofs.Common.{◌≡◌, rules, sym, subst}
use Rattle.srv_edge.specs.Name.{IsName}
use Rattle.drawn_session.specs.Records.{name_of}
use Rattle.drawn_session.proofs.Names.{name_is}
use Rattle.drawn_session.proofs.records.name_of.Goals as goal

pub returns-clause-is_name : goal.returns-clause-is_name
returns-clause-is_name c =
    let is : c.extend_from_slice.new.self.items ≡ name_of c.args.n = search rules in
    subst IsName (sym is) (name_is c.args.n c.requires)
