use Rattle.std.proofs.Common.{rules}
use Rattle.rules.specs.Views.{plain_side}
use Rattle.dependencies.proofs.Finding.{finds, goes}
use Rattle.dependencies.proofs.reading.OccurrencesIterator.next.Goals as goal

pub returns-clause-steps : goal.returns-clause-steps
returns-clause-steps c =
    let atoms = plain_side c.args.self.now.side.now in
    finds atoms _ _ (λ x r q k. search rules) _ c.args.self.now.numbers c.find_map.new.self c.find_map.result c.find_map.ensures.ran c.find_map.ensures.runs

pub returns-clause-goes : goal.returns-clause-goes
returns-clause-goes c = goes _ _ _ (returns-clause-steps c)
