use Rattle.std.proofs.Common.{◌≡◌, ℕ, ◌+◌, ◌≤◌, ◌<◌, List, ◌∷◌, ◌++◌, [], map, length, get_or, take, Some, None, Option, ap, sym, subst, ◌∙◌, arith, length-take}
use Rattle.std.proofs.Math.ListN.{length-map}
use Rattle.std.proofs.lemmas.Bool.{false≢true}
use Rattle.std.proofs.lemmas.List.{take_more, take_all}
use Rattle.lists.proofs.Mapped.{map_snoc, at_map_get}
use Rattle.patterns.specs.Patterns.{Written}
use Rattle.patterns.specs.Tables.{written}
use Rattle.patterns.specs.declared.atom.Atom as source
use Rattle.rules.specs.declared.rule.Atom.{Atom}
use Rattle.rules.specs.declared.rule.Side.{Side}
use Rattle.rules.specs.Views.{SideMade}
use Rattle.naming.specs.Meaning.{Predicate}
use Rattle.naming.specs.Names.{names_of}
use Rattle.naming.specs.Numbering.{AtomNumbered, SideNumbered}
use Rattle.naming.proofs.Ends.{ok_after}
use Rattle.naming.proofs.Sides.{Begun, begun_more, begun_long, begun_stuck, begun_all}
use Rattle.naming.proofs.numbering.number_side.Goals as goal

module _ (known : List Predicate) (atoms : List source.Atom) (before mid : List (List ℕ)) (made : List Atom) (i : ℕ) (b : Begun known (map written (take i atoms)) before mid made) where
  count : length (map written (take i atoms)) ≤ i
  count = omega (arith, length-map (take i atoms) written, length-take i atoms)

  -- an atom that cannot be numbered
  stuck : (after : List (List ℕ)) (a : source.Atom) → a ≡ get_or atoms i a → i < length atoms → length atoms ≤ 4 → AtomNumbered known (written a) mid after None → SideNumbered known (map written atoms) before after None
  stuck after a is l few none =
      begun_stuck known (map written (take i atoms)) before mid made b after (map written atoms) i (written (get_or atoms i a)) count (omega (arith, length-map atoms written)) (at_map_get written atoms i a l)
      (subst (λ (k : source.Atom). AtomNumbered known (written k) mid after None) is none)

  more : (after : List (List ℕ)) (a : source.Atom) (x : Atom) → a ≡ get_or atoms i a → i < length atoms → AtomNumbered known (written a) mid after (Some x) → Begun known (map written (take (i + 1) atoms)) before after (made ++ (x ∷ []))
  more after a x is l numbered =
      subst (λ (k : List Written). Begun known k before after (made ++ (x ∷ []))) (sym (ap (map written) (take_more atoms i a l) ∙ map_snoc written (take i atoms) (get_or atoms i a)))
      (begun_more known (map written (take i atoms)) before mid made b after (written (get_or atoms i a)) x (subst (λ (k : source.Atom). AtomNumbered known (written k) mid after (Some x)) is numbered))

  all : (r : Option Side) → length atoms ≤ i → length atoms ≤ 4 → SideMade made r → SideNumbered known (map written atoms) before mid r
  all r l few =
      let whole = subst (λ (k : List source.Atom). Begun known (map written k) before mid made) (take_all i atoms l) b in
      begun_all known (map written atoms) before mid made whole r (omega (arith, length-map atoms written))

pub returns-in_err-number_atom : goal.returns-in_err-number_atom
returns-in_err-number_atom c =
    let items = c.atoms-atom-items.ensures in
    rw (c.from_residual-in_err-number_atom.ensures, ← items.atoms) (stuck _ _ _ _ _ _ c.loop-atom.invariant (names_of c.number_atom.new.variables) c.atom-item.result c.atom-item.is c.loop-atom-test.true items.few c.in_err-number_atom.ensures)

pub returns-in_err-ok : goal.returns-in_err-ok
returns-in_err-ok c =
    let items = c.atoms-atom-items.ensures in
    let i = c.loop-atom.atom-index in
    let long = begun_long _ _ _ _ _ c.loop-atom.invariant in
    let counted = length-map (take i c.atoms-atom-items.result.now) written in
    let front = length-take i c.atoms-atom-items.result.now in
    absurd (false≢true (c.in_err-ok.ensures.variant ∙ c.push.ensures.fits.1 (omega arith)))

pub loop-atom-preserved : goal.loop-atom-preserved
loop-atom-preserved c = rw (ok_after _ c.push.result c.in_ok-ok.ensures.variant c.push.ensures.items) (more _ _ _ _ _ _ c.loop-atom.invariant _ c.atom-item.result _ c.atom-item.is c.loop-atom-test.true c.in_ok-number_atom.ensures)

pub returns : goal.returns
returns c =
    let items = c.atoms-atom-items.ensures in
    rw (← items.atoms) (all _ _ _ _ _ _ c.loop-atom.invariant c.new-2.result c.loop-atom-test.false items.few (subst (λ (k : List Atom). SideMade k c.new-2.result) c.as_slice.ensures.items c.new-2.ensures))
