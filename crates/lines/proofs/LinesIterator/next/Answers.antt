use Rattle.std.proofs.Common.{refl, rules}
use Rattle.std.proofs.lemmas.List.{drop_all, take_rest}
use Rattle.lines.specs.Cutting.Cut.{empty}
use Rattle.lines.proofs.Unique.{determined}
use Rattle.lines.proofs.Handing.{line_first_at}
use Rattle.lines.proofs.LinesIterator.next.Goals as goal

pub returns-then-is_empty-clause-steps : goal.returns-then-is_empty-clause-steps
returns-then-is_empty-clause-steps c = (refl, (empty (drop_all c.args.self.now.at c.args.self.now.text.now (search rules)), refl, refl), determined _)

pub returns-clause-steps : goal.returns-clause-steps
returns-clause-steps c = (
  refl,
  (
    refl,
    refl,
    record {
      memory = record { block = refl; offset = search rules; long = refl; holds = search (rules, take_rest) };
      behind = search rules;
      onwards = search rules;
      within = search rules;
      lines = λ rest cut. search (rules, line_first_at, take_rest);
    },
  ),
  determined _,
)
