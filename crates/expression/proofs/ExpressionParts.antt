-- The commands of an expression in a file, one after the other up to its 3F.
use mathlib.Core.Path.{◌≡◌, refl, sym, ap, ap₂, subst, ◌∙◌}
use mathlib.Core.Bool.{true, false, true≢false}
use mathlib.Core.List.{List, [], ◌∷◌, ◌++◌, reverse, append-nil, append_assoc}
use Prim.Native.Nat.{ℕ, zero, suc, ◌+◌, ◌≤◌, ◌<◌}
use native.Mathlib.Omega.{arith}
use borrow.Author.Tests.{eqb-true}
use lib.Dec.{eqb}
use lib.ListN.{length}
use Rattle.std.specs.Prelude.{Option, Some}
use Rattle.command.specs.Command.{command_at, part_size}
use Rattle.command.specs.declared.Command.{Command}
use Rattle.command.specs.declared.Command.TheVariants.{Expression}
use Rattle.command.specs.declared.Part.{Part}
use Rattle.command.specs.declared.Part.TheVariants.{OpenBracket, CloseBracket, Use, Or, Repeat, End}
use Rattle.expression.specs.Expression.{Expression as Exp}
use Rattle.expression.specs.Content.{Name, SoFar, nothing_so_far, on_part, after_part, is_end, failed_inside}
use Rattle.expression.specs.Content.{whole, content_from, content_at}
use Rattle.expression.proofs.WholeContents.{types_of, types_more, closed-names, PartPasses, part_passes, not_broken, turn, end_only}
use Rattle.expression.proofs.CommandTests.{part_inside}

-- From the place i on stand the parts xs, none of them a 3F, and then, at the place p, the 3F.
pub data Parts (file : List ℕ) : ℕ → List Part → ℕ → Type 0 where
  last : {p : ℕ} → command_at file p ≡ Some (Expression End) → Parts file p [] p
  more : {i p : ℕ} {x : Part} {xs : List Part} → command_at file i ≡ Some (Expression x) → is_end x ≡ false → Parts file (i + part_size x) xs p
      → Parts file i (x ∷ xs) p

-- the type that a 32 names; the types that the 32s among the parts name, in order
abbrev pub type_used : Part → List ℕ
type_used OpenBracket = []
type_used CloseBracket = []
type_used (Use j) = j.0 ∷ []
type_used Or = []
type_used Repeat = []
type_used End = []

abbrev pub types_used : List Part → List ℕ
types_used [] = []
types_used (x ∷ xs) = type_used x ++ types_used xs

-- they stand inside the file
pub parts_inside : {file : List ℕ} {i p : ℕ} {xs : List Part} → Parts file i xs p → (i ≤ p) × (p < length file)
parts_inside {file} {i} (last c) = (omega arith, omega (arith, part_inside file i End c))
parts_inside (more c n ps) = let h = parts_inside ps in (omega (arith, h.0), h.1)

-- the 3F stands there
pub parts_end : {file : List ℕ} {i p : ℕ} {xs : List Part} → Parts file i xs p → command_at file p ≡ Some (Expression End)
parts_end (last c) = c
parts_end (more c n ps) = parts_end ps

-- the name that a command at the place i adds
abbrev pub name_added : ℕ → Part → List Name
name_added i OpenBracket = []
name_added i CloseBracket = []
name_added i (Use j) = record { type = j.0; place = i } ∷ []
name_added i Or = []
name_added i Repeat = []
name_added i End = []

pub names_after : (r : SoFar) (i : ℕ) (x : Part) → (after_part r i x).names ≡ name_added i x ++ r.names
unfolding after_part
names_after r i OpenBracket = refl
names_after r i CloseBracket = sym (closed-names r.around r)
names_after r i (Use j) = refl
names_after r i Or = refl
names_after r i Repeat = refl
names_after r i End = refl

pub types_added : (i : ℕ) (x : Part) (ns : List Name) → types_of (reverse (name_added i x ++ ns)) ≡ types_of (reverse ns) ++ type_used x
types_added i OpenBracket ns = sym (append-nil (types_of (reverse ns)))
types_added i CloseBracket ns = sym (append-nil (types_of (reverse ns)))
types_added i (Use j) ns = types_more (record { type = j.0; place = i }) ns
types_added i Or ns = sym (append-nil (types_of (reverse ns)))
types_added i Repeat ns = sym (append-nil (types_of (reverse ns)))
types_added i End ns = sym (append-nil (types_of (reverse ns)))

pub types_after : (r : SoFar) (i : ℕ) (x : Part) → types_of (reverse (after_part r i x).names) ≡ types_of (reverse r.names) ++ type_used x
types_after r i x = ap (λ (ns : List Name). types_of (reverse ns)) (names_after r i x) ∙ types_added i x r.names

-- The parts from the place i on, of an expression whose names are ns and that ends at the place p; `before` are the types named before them.
pub record PartsFrom (file : List ℕ) (i : ℕ) (before : List ℕ) (ns : List Name) (p : ℕ) : Type 0 where
  pub parts : List Part
  pub chain : Parts file i parts p
  pub types : types_of ns ≡ before ++ types_used parts

-- the 3F is the last, and any other command one more
at_end : {file : List ℕ} {i : ℕ} (r : SoFar) {c : Option Command} {e e' : Exp} {ns : List Name} {p : ℕ} → command_at file i ≡ c → PartPasses r c
    → on_part is_end false c ≡ true → whole e' (reverse r.names) i ≡ whole e ns p
    → PartsFrom file i (types_of (reverse r.names)) ns p
at_end {file} {i} r {ns = ns} {p = p} d k b s =
    let x : k.part ≡ End = end_only k.part (rw k.is at b) in
    let ended : command_at file i ≡ Some (Expression End) = d ∙ k.is ∙ ap (λ (y : Part). Some (Expression y)) x in
    let q : i ≡ p = cc in
    let n : reverse r.names ≡ ns = cc in
    record {
      parts = [];
      chain = subst (λ (m : ℕ). Parts file i [] m) q (last ended);
      types = ap types_of (sym n) ∙ sym (append-nil (types_of (reverse r.names)));
    }

one_more : {file : List ℕ} {i : ℕ} (r : SoFar) {c : Option Command} {ns : List Name} {p : ℕ} → command_at file i ≡ c → (k : PartPasses r c)
    → on_part is_end false c ≡ false → PartsFrom file (i + part_size k.part) (types_of (reverse (after_part r i k.part).names)) ns p
    → PartsFrom file i (types_of (reverse r.names)) ns p
one_more {file} {i} r {c} {ns} {p} d k b h =
    let x = k.part in
    record {
      parts = x ∷ h.parts;
      chain = more (d ∙ k.is) (rw k.is at b) h.chain;
      types =
          h.types ∙ ap (λ (l : List ℕ). l ++ types_used h.parts) (types_after r i x)
          ∙ append_assoc (types_of (reverse r.names)) (type_used x) (types_used h.parts);
    }

parts_from : (fuel : ℕ) (file : List ℕ) (i : ℕ) (r : SoFar) {e : Exp} {ns : List Name} {p : ℕ} → content_from fuel file i r ≡ whole e ns p
    → PartsFrom file i (types_of (reverse r.names)) ns p
unfolding content_from
parts_from zero file i r q = not_broken q
parts_from (suc fuel) file i r q =
    let c = command_at file i in
    let n = failed_inside r c in
    turn (eqb n 0) (on_part is_end false c) n i q (λ a b s. at_end r refl (part_passes r c (eqb-true n 0 a)) b s)
    (λ a b s.
    let k = part_passes r c (eqb-true n 0 a) in
    one_more r refl k b (parts_from fuel file (i + part_size k.part) _ (rw k.is at s)))

-- An expression that is read whole has its parts, which name what its names say.
pub expression_parts : (file : List ℕ) (i : ℕ) {e : Exp} {ns : List Name} {p : ℕ} → content_at file i ≡ whole e ns p → PartsFrom file i [] ns p
unfolding content_at
expression_parts file i q = parts_from (suc (length file)) file i nothing_so_far q

-- A file has one chain of parts from a place on.
same_part : {c : Option Command} {x y : Part} → c ≡ Some (Expression x) → c ≡ Some (Expression y) → x ≡ y
same_part d e = cc

end_alone : {A : Type 0} {c : Option Command} {x : Part} → c ≡ Some (Expression End) → c ≡ Some (Expression x) → is_end x ≡ false → A
end_alone c d n = absurd (true≢false (ap is_end (same_part c d) ∙ n))

pub parts_same : {file : List ℕ} {i p q : ℕ} {xs ys : List Part} → Parts file i xs p → Parts file i ys q → (xs ≡ ys) × (p ≡ q)
parts_same (last c) (last d) = (refl, refl)
parts_same (last c) (more d n ps) = end_alone c d n
parts_same (more c n ps) (last d) = end_alone d c n
parts_same {file} {i} {q = q} (more {x = x} {xs = xs} c n ps) (more {xs = ys} d m qs) =
    let e = same_part c d in
    let h = parts_same ps (subst (λ (y : Part). Parts file (i + part_size y) ys q) (sym e) qs) in
    (ap₂ (λ (y : Part) (zs : List Part). y ∷ zs) e h.0, h.1)

-- so these are the parts of the expression that is read there
pub parts_types : (file : List ℕ) (i : ℕ) {e : Exp} {ns : List Name} {p q : ℕ} {xs : List Part} → content_at file i ≡ whole e ns p
    → Parts file i xs q → (types_of ns ≡ types_used xs) × (p ≡ q)
parts_types file i s ps =
    let h = expression_parts file i s in
    let same = parts_same h.chain ps in
    (h.types ∙ ap types_used same.0, same.1)
