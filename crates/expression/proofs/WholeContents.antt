-- What is known of an expression that is read from a file: its place, its uses and what they name; and the numbers of its refusals.
use mathlib.Core.Path.{◌≡◌, refl, sym, ap, subst, ◌∙◌}
use mathlib.Core.Logic.{inl, inr}
use mathlib.Core.Bool.{Bool, true, false, cond}
use mathlib.Core.List.{List, [], ◌∷◌, ◌++◌, map, reverse, reverse_aux, reverse-cons, map-append, append-nil, append_assoc}
use Prim.Native.Nat.{ℕ, zero, suc, ◌+◌, ◌≤◌, ◌<◌}
use native.Mathlib.Omega.{arith}
use borrow.Author.Tests.{eqb-true, eq-eqb}
use lib.Dec.{T, eqb, eqb→eq, ltb→lt}
use lib.ListN.{length, length-reverse}
use Rattle.sdtd.proofs.Basics.{cond_both, cond_either}
use Rattle.sdtd.specs.Limits.{most_types}
use Rattle.std.specs.Prelude.{Option, Some, None}
use Rattle.command.specs.Command.{command_at, part_size}
use Rattle.command.specs.declared.Command.{Command}
use Rattle.command.specs.declared.Command.TheVariants.{Tags, TypeBlock, Final, Step, Root, Nil, Done, Expression}
use Rattle.command.specs.declared.Part.{Part}
use Rattle.command.specs.declared.Part.TheVariants.{OpenBracket, CloseBracket, Use, Or, Repeat, End}
use Rattle.command.proofs.AskedLaws.{Numbered, all_yes, first_number}
use Rattle.command.proofs.CommandLaws.{command_in_file}
use Rattle.expression.specs.Limits.{most_uses}
use Rattle.expression.specs.Expression.{Expression as Exp}
use Rattle.expression.specs.Automaton.{named}
use Rattle.expression.specs.Content.{Level, sequence_of, choice_from, choice_of, Name, SoFar, nothing_so_far, part_in_range, can_follow}
use Rattle.expression.specs.Content.{within_uses, on_part, closed, questions_inside, failed_inside, last_repeated, is_end, after_part}
use Rattle.expression.specs.Answer.{NumberInside}
use Rattle.expression.specs.Content.{Content, broken, whole, content_from, content_at}

-- the types named by expressions, the last first; by a level; by the levels around
abbrev named_back : List Exp → List ℕ
named_back [] = []
named_back (e ∷ es) = named_back es ++ named e

abbrev named_in : Level → List ℕ
named_in l = named_back l.sequences ++ named_back l.factors

abbrev named_around : List Level → List ℕ
named_around [] = []
named_around (l ∷ ls) = named_around ls ++ named_in l

abbrev named_so_far : SoFar → List ℕ
named_so_far r = named_around r.around ++ named_in r.level

named_sequence : (fs : List Exp) → named (sequence_of fs) ≡ named_back fs
named_sequence [] = refl
named_sequence (f ∷ fs) = ap (λ (l : List ℕ). l ++ named f) (named_sequence fs)

named_choice : (ss : List Exp) (e : Exp) → named (choice_from ss e) ≡ named_back ss ++ named e
named_choice [] e = refl
named_choice (s ∷ ss) e = ap (λ (l : List ℕ). l ++ named e) (named_choice ss s)

named_level : (l : Level) → named (choice_of l) ≡ named_in l
named_level l = named_choice l.sequences (sequence_of l.factors) ∙ ap (λ (m : List ℕ). named_back l.sequences ++ m) (named_sequence l.factors)

-- the types that the names have, in order
abbrev pub types_of : List Name → List ℕ
types_of ns = map (λ (x : Name). x.type) ns

-- the names' places, the last first, lie from the place i on, rise, and lie before the place m
abbrev RiseBack : ℕ → List Name → ℕ → Type 0
RiseBack i [] m = i ≤ m
RiseBack i (x ∷ xs) m = (x.place < m) × RiseBack i xs x.place

-- the same in order
abbrev pub Rise : ℕ → List Name → ℕ → Type 0
Rise i [] m = i ≤ m
Rise i (x ∷ xs) m = (i ≤ x.place) × Rise (suc x.place) xs m

pub rise_most : (i : ℕ) (xs : List Name) (m : ℕ) → Rise i xs m → i ≤ m
rise_most i [] m h = h
rise_most i (x ∷ xs) m h = omega (arith, rise_most (suc x.place) xs m h.1)

-- each name's type is below the number of types
abbrev pub TypesBelow : List Name → Type 0
TypesBelow [] = Unit
TypesBelow (x ∷ xs) = (x.type < most_types) × TypesBelow xs

rise_later : (i : ℕ) {m n : ℕ} (xs : List Name) → m ≤ n → RiseBack i xs m → RiseBack i xs n
rise_later i [] l h = omega arith
rise_later i (x ∷ xs) l h = (omega arith, h.1)

-- What holds of what is read before the place m, of an expression that begins at the place i.
record SoFarHolds (i m : ℕ) (r : SoFar) : Type 0 where
  rises : RiseBack i r.names m
  types : TypesBelow r.names
  few : length r.names ≤ most_uses
  same : types_of (reverse r.names) ≡ named_so_far r

-- one name more
pub types_more : (x : Name) (xs : List Name) → types_of (reverse (x ∷ xs)) ≡ types_of (reverse xs) ++ (x.type ∷ [])
types_more x xs = ap types_of (reverse-cons x xs) ∙ map-append (λ (y : Name). y.type) (reverse xs) (x ∷ [])

-- a bracket closed: the choice inside names what it named
closed_same : (ls : List Level) (r : SoFar) → r.around ≡ ls → named_so_far r ≡ named_so_far (closed ls r)
closed_same [] r e = refl
closed_same (l ∷ ls) r e = rw (e, named_level r.level) (simp append_assoc)

pub closed-names : (ls : List Level) (r : SoFar) → r.names ≡ (closed ls r).names
closed-names [] r = refl
closed-names (l ∷ ls) r = refl

repeated_same : (fs : List Exp) → named_back fs ≡ named_back (last_repeated fs)
repeated_same [] = refl
repeated_same (f ∷ fs) = refl

-- a command that names nothing
module _ {i m : ℕ} {r : SoFar} (h : SoFarHolds i m r) where
  goes_on : {n : ℕ} (r' : SoFar) → m ≤ n → r.names ≡ r'.names → named_so_far r ≡ named_so_far r' → SoFarHolds i n r'
  goes_on r' l e f =
      record {
        rises = rw (← e) (rise_later i r.names l h.rises);
        types = rw (← e) h.types;
        few = rw (← e) h.few;
        same = rw (← e) (h.same ∙ f);
      }

  so_far_kept : (x : Part) → T (part_in_range x) → T (within_uses r x) → SoFarHolds i (m + part_size x) (after_part r m x)
  unfolding after_part
  so_far_kept OpenBracket a b = goes_on _ (omega arith) refl (sym (append-nil (named_around (r.level ∷ r.around))))
  so_far_kept CloseBracket a b = goes_on _ (omega arith) (closed-names r.around r) (closed_same r.around r refl)
  so_far_kept (Use j) a b =
      let l = ltb→lt (length r.names) most_uses b in
      record {
        rises = (omega arith, h.rises);
        types = (ltb→lt j.0 most_types a, h.types);
        few = omega arith;
        same =
            types_more (record { type = j.0; place = m }) r.names
            ∙ ap (λ (l : List ℕ). l ++ (j.0 ∷ [])) h.same
            ∙ simp append_assoc;
      }
  so_far_kept Or a b =
      goes_on _ (omega arith) refl
      (ap (λ (l : List ℕ). named_around r.around ++ l)
      (ap (λ (l : List ℕ). named_back r.level.sequences ++ l) (sym (named_sequence r.level.factors))
      ∙ sym (append-nil _)))
  so_far_kept Repeat a b =
      goes_on _ (omega arith) refl
      (ap (λ (l : List ℕ). named_around r.around ++ (named_back r.level.sequences ++ l)) (repeated_same r.level.factors))
  so_far_kept End a b = goes_on _ (omega arith) refl refl

nothing_holds : (i : ℕ) → SoFarHolds i i nothing_so_far
nothing_holds i = record { rises = omega arith; types = tt; few = omega arith; same = refl }

-- What holds of an expression that begins at the place i and ends with the 3F at the place p.
pub record WholeContent (file : List ℕ) (i : ℕ) (e : Exp) (ns : List Name) (p : ℕ) : Type 0 where
  pub ends : p < length file
  pub rises : Rise i ns p
  pub types : TypesBelow ns
  pub few : length ns ≤ most_uses
  pub names : types_of ns ≡ named e

-- in order what was the last first
rise_earlier : (i m : ℕ) (ys : List Name) (k : ℕ) → i ≤ m → Rise m ys k → Rise i ys k
rise_earlier i m [] k l g = omega arith
rise_earlier i m (y ∷ ys) k l g = (omega arith, g.1)

rise_turned : (i m : ℕ) (xs ys : List Name) (k : ℕ) → RiseBack i xs m → Rise m ys k → Rise i (reverse_aux xs ys) k
rise_turned i m [] ys k h g = rise_earlier i m ys k h g
rise_turned i m (x ∷ xs) ys k h g =
    rise_turned i x.place xs (x ∷ ys) k h.1 (omega arith, rise_earlier (suc x.place) m ys k h.0 g)

types_turned : (xs ys : List Name) → TypesBelow xs → TypesBelow ys → TypesBelow (reverse_aux xs ys)
types_turned [] ys h g = g
types_turned (x ∷ xs) ys h g = types_turned xs (x ∷ ys) h.1 (h.0, g)

-- a command that passes its questions is one of an expression's, and each question says so of it
pub record PartPasses (r : SoFar) (c : Option Command) : Type 0 where
  pub part : Part
  pub is : c ≡ Some (Expression part)
  pub in_range : T (part_in_range part)
  pub follows : T (can_follow r part)
  pub uses_fit : T (within_uses r part)

pub part_passes : (r : SoFar) (c : Option Command) → failed_inside r c ≡ 0 → PartPasses r c
part_passes r (Some (Tags n)) z = absurd (omega arith)
part_passes r (Some (TypeBlock g k)) z = absurd (omega arith)
part_passes r (Some (Final q)) z = absurd (omega arith)
part_passes r (Some (Step p j q)) z = absurd (omega arith)
part_passes r (Some (Root a)) z = absurd (omega arith)
part_passes r (Some Nil) z = absurd (omega arith)
part_passes r (Some Done) z = absurd (omega arith)
part_passes r (Some (Expression x)) z =
    let h = all_yes (questions_inside r (Some (Expression x))) (omega arith) z in
    record {
      part = x;
      is = refl;
      in_range = search h;
      follows = search h;
      uses_fit = search h;
    }
part_passes r None z = absurd (omega arith)

-- a refusal is no whole expression
pub not_broken : {A : Type 0} {n q p : ℕ} {e : Exp} {ns : List Name} → broken n q ≡ whole e ns p → A
not_broken h = absurd (let z : ◌≡◌ {A = ℕ} 0 1 = cc in omega arith)

-- one turn: the command ends the expression, or the rest follows
pub turn : {R : Type 0} (a b : Bool) (n i : ℕ) {ended rest : Content} {e : Exp} {ns : List Name} {p : ℕ}
    → cond a (cond b ended rest) (broken n i) ≡ whole e ns p
    → (a ≡ true → b ≡ true → ended ≡ whole e ns p → R) → (a ≡ true → b ≡ false → rest ≡ whole e ns p → R) → R
turn true true n i h last more = last refl refl h
turn true false n i h last more = more refl refl h
turn false b n i h last more = not_broken h

-- the 3F, where no bracket is open
ended_whole : {file : List ℕ} {i m : ℕ} {r : SoFar} → SoFarHolds i m r → m < length file → length r.around ≡ 0
    → WholeContent file i (choice_of r.level) (reverse r.names) m
ended_whole {file} {i} {m} {r} h l none =
    record {
      ends = l;
      rises = rise_turned i m r.names [] m h.rises (omega arith);
      types = types_turned r.names [] h.types tt;
      few = rw length-reverse h.few;
      names = h.same ∙ outside r.around none ∙ sym (named_level r.level);
    }
  where
    outside : (ls : List Level) → length ls ≡ 0 → named_around ls ++ named_in r.level ≡ named_in r.level
    outside [] e = refl
    outside (x ∷ ls) e = absurd (omega arith)

pub end_only : (x : Part) → is_end x ≡ true → x ≡ End
end_only OpenBracket e = absurd (let z : ◌≡◌ {A = ℕ} 0 1 = cc in omega arith)
end_only CloseBracket e = absurd (let z : ◌≡◌ {A = ℕ} 0 1 = cc in omega arith)
end_only (Use j) e = absurd (let z : ◌≡◌ {A = ℕ} 0 1 = cc in omega arith)
end_only Or e = absurd (let z : ◌≡◌ {A = ℕ} 0 1 = cc in omega arith)
end_only Repeat e = absurd (let z : ◌≡◌ {A = ℕ} 0 1 = cc in omega arith)
end_only End e = refl

-- of what is read of the whole
abbrev OfWhole : List ℕ → ℕ → Content → Type 0
OfWhole file i (broken n p) = Unit
OfWhole file i (whole e ns p) = WholeContent file i e ns p

at_end : {file : List ℕ} {i m : ℕ} {r : SoFar} → SoFarHolds i m r → (c : Option Command) → command_at file m ≡ c → PartPasses r c
    → on_part is_end false c ≡ true → WholeContent file i (choice_of r.level) (reverse r.names) m
at_end {file} {i} {m} {r} h c d k b =
    let x : k.part ≡ End = end_only k.part (rw k.is at b) in
    let o : T (can_follow r End) = subst (λ (y : Part). T (can_follow r y)) x k.follows in
    let ended : command_at file m ≡ Some (Expression End) = d ∙ k.is ∙ ap (λ (y : Part). Some (Expression y)) x in
    ended_whole h (omega (arith, command_in_file file m ended)) (eqb→eq (length r.around) 0 o)

whole_from : (fuel : ℕ) (file : List ℕ) (i m : ℕ) (r : SoFar) {e : Exp} {ns : List Name} {p : ℕ} → SoFarHolds i m r
    → content_from fuel file m r ≡ whole e ns p → WholeContent file i e ns p
unfolding content_from
whole_from zero file i m r h q = not_broken q
whole_from (suc fuel) file i m r {e} {ns} {p} h q =
    let c = command_at file m in
    let n = failed_inside r c in
    turn (eqb n 0) (on_part is_end false c) n m q
    (λ a b s. subst (OfWhole file i) s (at_end {file = file} h c refl (part_passes r c (eqb-true n 0 a)) b))
    (λ a b s.
    let k = part_passes r c (eqb-true n 0 a) in
    whole_from fuel file i (m + part_size k.part) _ (so_far_kept h k.part k.in_range k.uses_fit) (rw k.is at s))

-- its first command is one of an expression's
first_from : (fuel : ℕ) (file : List ℕ) (i : ℕ) (r : SoFar) {e : Exp} {ns : List Name} {p : ℕ} → content_from fuel file i r ≡ whole e ns p
    → PartPasses r (command_at file i)
unfolding content_from
first_from zero file i r q = not_broken q
first_from (suc fuel) file i r q =
    let c = command_at file i in
    let n = failed_inside r c in
    turn (eqb n 0) (on_part is_end false c) n i q (λ a b s. part_passes r c (eqb-true n 0 a)) (λ a b s. part_passes r c (eqb-true n 0 a))

pub first_command : (file : List ℕ) (i : ℕ) {e : Exp} {ns : List Name} {p : ℕ} → content_at file i ≡ whole e ns p
    → PartPasses nothing_so_far (command_at file i)
unfolding content_at
first_command file i q = first_from (suc (length file)) file i nothing_so_far q

-- an expression that is read whole
pub whole_content : (file : List ℕ) (i : ℕ) {e : Exp} {ns : List Name} {p : ℕ} → content_at file i ≡ whole e ns p → WholeContent file i e ns p
unfolding content_at
whole_content file i q = whole_from (suc (length file)) file i i nothing_so_far (nothing_holds i) q

-- what holds of what each part gives, and of what stands beside
part_either : {A : Type 0} (P : A → Type 0) (f : Part → A) (z : A) (c : Option Command) → ((x : Part) → P (f x)) → P z → P (on_part f z c)
part_either P f z None h k = k
part_either P f z (Some (Tags n)) h k = k
part_either P f z (Some (TypeBlock t s)) h k = k
part_either P f z (Some (Final q)) h k = k
part_either P f z (Some (Step p j q)) h k = k
part_either P f z (Some (Root a)) h k = k
part_either P f z (Some Nil) h k = k
part_either P f z (Some Done) h k = k
part_either P f z (Some (Expression x)) h k = h x

abbrev OfBroken : Content → Type 0
OfBroken (broken n p) = NumberInside n
OfBroken (whole e ns p) = Unit

broken_from : (fuel : ℕ) (file : List ℕ) (m : ℕ) (r : SoFar) → OfBroken (content_from fuel file m r)
unfolding content_from
broken_from zero file m r = (omega arith, inl (omega arith))
broken_from (suc fuel) file m r =
    let c = command_at file m in
    let n = failed_inside r c in
    let low : (k : ℕ) → 2 ≤ k → k ≤ 4 → NumberInside k = λ k l m. (l, inl m) in
    let high : (k : ℕ) → 21 ≤ k → k ≤ 23 → NumberInside k = λ k l m. (omega arith, inr (l, m)) in
    let numbered : Numbered NumberInside (questions_inside r c) = (
      low 2 (omega arith) (omega arith),
      (
        low 3 (omega arith) (omega arith),
        (
          low 4 (omega arith) (omega arith),
          (high 21 (omega arith) (omega arith), (high 22 (omega arith) (omega arith), (high 23 (omega arith) (omega arith), tt))),
        ),
      ),
    ) in
    let rest = part_either OfBroken _ _ c (λ x. broken_from fuel file (m + part_size x) (after_part r m x)) tt in
    cond_either OfBroken (eqb n 0) (λ t. cond_both OfBroken (on_part is_end false c) _ _ tt rest)
    (λ f. first_number NumberInside (questions_inside r c) numbered (λ z. f (rw (eq-eqb n 0 z) tt)))

pub broken_number : (file : List ℕ) (i : ℕ) {n p : ℕ} → content_at file i ≡ broken n p → NumberInside n
unfolding content_at
broken_number file i q = subst OfBroken q (broken_from (suc (length file)) file i nothing_so_far)
