-- The scan of an expression, a command at a time. More fuel than the bytes left makes no difference.
use mathlib.Core.Path.{◌≡◌, refl, sym, ap, ◌∙◌}
use mathlib.Core.Bool.{false, cond}
use mathlib.Core.List.{List, reverse}
use Prim.Native.Nat.{ℕ, zero, suc, ◌+◌, ◌<◌}
use native.Mathlib.Omega.{arith}
use borrow.Author.Tests.{lt-leb, ne_eqb}
use lib.Dec.{eqb}
use lib.ListN.{length}
use Rattle.command.specs.Command.{command_at, part_size}
use Rattle.command.specs.declared.Command.{Command}
use Rattle.command.specs.declared.Command.TheVariants.{Tags, TypeBlock, Final, Step, Root, Nil, Done, Expression}
use Rattle.command.specs.declared.Part.{Part}
use Rattle.command.specs.declared.Part.TheVariants.{End}
use Rattle.command.proofs.CommandLaws.{part_some}
use Rattle.std.specs.Prelude.{Option, Some, None}
use Rattle.expression.specs.Content.{SoFar, on_part, Content, broken, whole, choice_of, failed_inside, after_part, is_end, content_from}
use Rattle.expression.specs.Parsing.{scan}

-- two rules that agree on what the command is
part_same : {A : Type 0} (f g : Part → A) (z : A) (c : Option Command) → ((x : Part) → c ≡ Some (Expression x) → f x ≡ g x)
    → on_part f z c ≡ on_part g z c
part_same f g z None h = refl
part_same f g z (Some (Tags n)) h = refl
part_same f g z (Some (TypeBlock t s)) h = refl
part_same f g z (Some (Final q)) h = refl
part_same f g z (Some (Step p j q)) h = refl
part_same f g z (Some (Root a)) h = refl
part_same f g z (Some Nil) h = refl
part_same f g z (Some Done) h = refl
part_same f g z (Some (Expression x)) h = h x refl

none_past : (file : List ℕ) (n i : ℕ) (r : SoFar) → length file < i → content_from n file i r ≡ broken 2 i
unfolding content_from
none_past file zero i r l = refl
none_past file (suc n) i r l = rw (lt-leb (i + 1) (length file) (omega arith))

abbrev ended : ℕ → SoFar → Content
ended i r = whole (choice_of r.level) (reverse r.names) i

-- the answer at one command, by what is read behind it
abbrev turned : List ℕ → ℕ → SoFar → (Part → Content) → Content
turned file i r rest =
    let c = command_at file i in
    let n = failed_inside r c in
    cond (eqb n 0) (cond (on_part is_end false c) (ended i r) (on_part rest (ended i r) c)) (broken n i)

turned_same : (file : List ℕ) (i : ℕ) (r : SoFar) (f g : Part → Content)
    → ((x : Part) → command_at file i ≡ Some (Expression x) → f x ≡ g x) → turned file i r f ≡ turned file i r g
turned_same file i r f g h =
    let c = command_at file i in
    let n = failed_inside r c in
    ap (λ (y : Content). cond (eqb n 0) (cond (on_part is_end false c) (ended i r) y) (broken n i))
    (part_same f g (ended i r) c h)

abbrev rest : ℕ → List ℕ → ℕ → SoFar → Part → Content
rest fuel file i r x = content_from fuel file (i + part_size x) (after_part r i x)

-- the fuel that is left is more than the bytes left
fuel_same : (file : List ℕ) (m n i : ℕ) (r : SoFar) → length file < m + i → length file < n + i → content_from m file i r ≡ content_from n file i r
unfolding content_from
fuel_same file zero n i r l k = sym (none_past file n i r (omega arith))
fuel_same file (suc m) zero i r l k = none_past file (suc m) i r (omega arith)
fuel_same file (suc m) (suc n) i r l k =
    turned_same file i r (rest m file i r) (rest n file i r)
    (λ x e. fuel_same file m n (i + part_size x) (after_part r i x) (omega (arith, part_some x)) (omega (arith, part_some x)))

-- one command
pub scan_next : (file : List ℕ) (i : ℕ) (r : SoFar)
    → scan file i r
    ≡ cond (eqb (failed_inside r (command_at file i)) 0)
    (cond (on_part is_end false (command_at file i)) (whole (choice_of r.level) (reverse r.names) i)
    (on_part (λ x. scan file (i + part_size x) (after_part r i x)) (whole (choice_of r.level) (reverse r.names) i) (command_at file i)))
    (broken (failed_inside r (command_at file i)) i)
unfolding scan content_from
scan_next file i r =
    turned_same file i r (rest (length file) file i r) (rest (suc (length file)) file i r)
    (λ x e. fuel_same file (length file) (suc (length file)) (i + part_size x) (after_part r i x)
    (omega (arith, part_some x)) (omega arith))

-- a command that fails a question
pub scan_fails : (file : List ℕ) (i : ℕ) (r : SoFar) (n : ℕ) → failed_inside r (command_at file i) ≡ n → ¬ (n ≡ 0) → scan file i r ≡ broken n i
scan_fails file i r n e d = scan_next file i r ∙ rw (e, ne_eqb n 0 d)

-- one that passes them, and is no 3F
pub scan_part : (file : List ℕ) (i : ℕ) (r : SoFar) (x : Part) → command_at file i ≡ Some (Expression x) → failed_inside r (Some (Expression x)) ≡ 0
    → is_end x ≡ false → scan file i r ≡ scan file (i + part_size x) (after_part r i x)
scan_part file i r x c e n = scan_next file i r ∙ rw (c, e, n)

-- the 3F
pub scan_ends : (file : List ℕ) (i : ℕ) (r : SoFar) → command_at file i ≡ Some (Expression End) → failed_inside r (Some (Expression End)) ≡ 0
    → scan file i r ≡ whole (choice_of r.level) (reverse r.names) i
scan_ends file i r c e = scan_next file i r ∙ rw (c, e)
