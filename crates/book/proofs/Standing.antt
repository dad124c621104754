-- The rules in memory after one more stands, and after one is withdrawn.
use Rattle.std.proofs.Common.{◌≡◌, ℕ, zero, suc, ◌+◌, ◌<◌, List, [], ◌∷◌, ◌++◌, map, length, take, drop, refl, ap, ◌∙◌, subst, Some, Option, arith}
use Rattle.std.specs.List.{remove}
use Rattle.std.proofs.Math.Logic.{∥∥₁_map}
use Rattle.lists.proofs.Mapped.{map_snoc}
use Rattle.rules.specs.declared.rule.Rule.{Rule}
use Rattle.naming.specs.Names.{predicates_of}
use Rattle.naming.specs.declared.predicate.Predicates.{Predicates}
use Rattle.book.specs.Book as plain
use Rattle.book.specs.Book.{Sound}
use Rattle.book.specs.Asking.{Passes}
use Rattle.book.specs.Changing.{Adds, Withdraws}
use Rattle.book.specs.Views.{plain_entry, book_of, FindsLabel}
use Rattle.book.proofs.Sounding.{sound_added, sound_withdrawn}

pub pushed_book : (xs : List Rule) (r : Rule) (k : Predicates) → book_of (xs ++ (r ∷ [])) k ≡ record { entries = map plain_entry xs ++ (plain_entry r ∷ []); known = predicates_of k }
pushed_book xs r k = ap (λ (es : List plain.Entry). record { entries = es; known = predicates_of k }) (map_snoc plain_entry xs r)

map_without : (xs : List Rule) (n : ℕ) → map plain_entry (remove xs n) ≡ take n (map plain_entry xs) ++ drop (suc n) (map plain_entry xs)
map_without [] zero = refl
map_without [] (suc n) = refl
map_without (x ∷ xs) zero = refl
map_without (x ∷ xs) (suc n) = ap (λ (k : List plain.Entry). plain_entry x ∷ k) (map_without xs n)

pub removed_book : (xs ys : List Rule) (n : ℕ) (k : Predicates) → ys ≡ take n xs ++ drop (n + 1) xs → book_of ys k ≡ record { entries = take n (map plain_entry xs) ++ drop (suc n) (map plain_entry xs); known = predicates_of k }
removed_book xs ys n k e =
    let one : n + 1 ≡ suc n = omega arith in
    let same = e ∙ ap (λ (m : ℕ). take n xs ++ drop m xs) one in
    ap (λ (es : List plain.Entry). record { entries = es; known = predicates_of k }) (ap (map plain_entry) same ∙ map_without xs n)

-- the rule that carries the label is taken out
pub withdrawn : (xs ys : List Rule) (k : Predicates) (label : List ℕ) (r : Option ℕ) (n : ℕ) → FindsLabel (book_of xs k) label r → r ≡ Some n → ys ≡ remove xs n → Withdraws (book_of xs k) label (book_of ys k)
withdrawn xs ys k label r n f e gone =
    let found = subst (λ (x : Option ℕ). FindsLabel (book_of xs k) label x) e f in
    record { number = n; entry = found.0; carries = found.1; becomes = ap (λ (es : List plain.Entry). record { entries = es; known = predicates_of k }) (ap (map plain_entry) gone ∙ map_without xs n) }

-- fewer than 64 rules stand where the line passes
pub rules_few : (b : plain.Book) (line : List ℕ) → Passes b line → length b.entries < 64
rules_few b line (y, (z, (u, (v, (w, (label, (right, (few, (room, _))))))))) = room

pub sound_more : (b after : plain.Book) (line : List ℕ) → ∥ Sound b ∥₁ → Passes b line → Adds b line after → ∥ Sound after ∥₁
sound_more b after line s passes adds = ∥∥₁_map s (λ x. sound_added b after line x passes adds)

pub sound_less : (b after : plain.Book) (label : List ℕ) → ∥ Sound b ∥₁ → Withdraws b label after → ∥ Sound after ∥₁
sound_less b after label s gone = ∥∥₁_map s (λ x. sound_withdrawn b after label x gone)
