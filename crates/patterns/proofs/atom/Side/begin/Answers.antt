use Rattle.std.proofs.Common.{◌≡◌, ◌<◌, ◌≤◌, ℕ, [], ◌∷◌, ◌++◌, length, set, Ok, Err, Result, IsOk, OnOk, OnErr, ◌↔◌, rules, arith}
use Rattle.std.proofs.Math.Seq.{set-append_seam}
use Rattle.bounded.specs.Bounded.{items}
use Rattle.bounded.specs.declared.Bounded.{Bounded}
use Rattle.bounded.specs.declared.Full.{Full}
use Rattle.tokens.specs.declared.token.Word.{Word}
use Rattle.patterns.specs.declared.atom.Atom.{Atom}
use Rattle.patterns.specs.declared.atom.Side.{Side}
use Rattle.patterns.specs.Tables.{Begun}
use Rattle.patterns.proofs.atom.Side.begin.Goals as goal

begun : (d e : Side) (a : Atom) (p : Word) (r : Result (Unit {0}) Full) → OnOk r (items e.atoms ≡ items d.atoms ++ (a ∷ [])) → a.predicate ≡ p → items a.words ≡ [] → (IsOk r ↔ (length (items d.atoms) < 4)) → OnErr r (e.atoms ≡ d.atoms) → Begun d p e r
begun d e a p (Ok u) more named empty fits same = (a, more, named, empty, search rules)
begun d e a p (Err x) more named empty fits same = search rules

-- the same of a body that pushes another atom and writes this one over it; by this lemma the edit `atom_dropped`, which is such a body, is refused for its place alone
begun_in_place : (d e : Side) (m : Bounded Atom _) (n : ℕ) (a b : Atom) (p : Word) (r : Result (Unit {0}) Full) → items e.atoms ≡ set (items m) n a → n ≡ length (items d.atoms) → a.predicate ≡ p → items a.words ≡ [] → OnOk r (items m ≡ items d.atoms ++ (b ∷ [])) → (IsOk r ↔ (length (items d.atoms) < 4)) → OnErr r (m ≡ d.atoms) → (length (items m) ≤ n → e.atoms ≡ m) → Begun d p e r
begun_in_place d e m n a b p (Ok u) is at named empty more fits same beyond = (a, grind (arith, set-append_seam (items d.atoms) b [] a), named, empty, search rules)
begun_in_place d e m n a b p (Err x) is at named empty more fits same beyond = search (rules, beyond)

pub returns : goal.returns
returns c = search (rules, begun, begun_in_place)
