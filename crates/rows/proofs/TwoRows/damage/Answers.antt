-- `damage` meets its contract: the symbols in front that both chunks have alike are those that agree.
use Rattle.rows.proofs.Measure.{damage_found}
use Rattle.rows.proofs.TwoRows.damage.Goals as goal

pub overflow_sub-result : goal.overflow_sub-result
overflow_sub-result c = (damage_found _ c.args.self.now.a.now c.args.self.now.b.now c.args.i _ _ c.args.self.now.chunks c.requires c.common_front.ensures).0

pub returns : goal.returns
returns c = (damage_found _ c.args.self.now.a.now c.args.self.now.b.now c.args.i _ _ c.args.self.now.chunks c.requires c.common_front.ensures).1
