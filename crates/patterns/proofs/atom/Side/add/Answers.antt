use Rattle.std.proofs.Common.{◌≡◌, ◌+◌, ℕ, List, length, take, set, get_or, Result, inr, rules, arith}
use Rattle.std.proofs.Math.Seq.{take-suc, take-suc-set}
use Rattle.std.proofs.lemmas.List.{take_all, length-set}
use Rattle.bounded.specs.Bounded.{items}
use Rattle.bounded.specs.declared.Full.{Full}
use Rattle.tokens.specs.declared.token.Word.{Word}
use Rattle.patterns.specs.declared.atom.Atom.{Atom}
use Rattle.patterns.specs.declared.atom.Side.{Side}
use Rattle.patterns.specs.Tables.{Pushed, Added}
use Rattle.patterns.proofs.atom.Side.add.Goals as goal

-- the last of n atoms has another put in its place
added : (d e : Side) (n k : ℕ) (atoms : List Atom) (a b : Atom) (w : Word) (r : Result (Unit {0}) Full) → items e.atoms ≡ set (items d.atoms) k b → a ≡ get_or atoms k a → atoms ≡ items d.atoms → n ≡ length (items d.atoms) → k + 1 ≡ n → Pushed a w b r → Added d w e r
added d e n k atoms a b w r is some same count at pushed =
    let xs = items d.atoms in
    inr (record {
      before = take k xs;
      old = a;
      new = b;
      was = grind (arith, take-suc xs k a, take_all);
      is = grind (arith, take-suc-set xs k b, length-set, take_all);
      pushed = pushed;
    })

pub returns : goal.returns
returns c = search (rules, arith, added)
