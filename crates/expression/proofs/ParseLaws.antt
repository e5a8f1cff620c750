-- What the parsers say of their parts, put together.
use mathlib.Core.Path.{◌≡◌, refl, sym, ap, ◌∙◌}
use mathlib.Core.Bool.{Bool, true, false, true≢false}
use mathlib.Core.List.{List, [], ◌∷◌, ◌++◌, append_assoc}
use Prim.Native.Nat.{ℕ, suc, ◌+◌, ◌≤◌, ◌<◌}
use native.Mathlib.Nat.{le_refl}
use native.Mathlib.Omega.{arith}
use borrow.Author.Tests.{lt-ltb, le-ltb, ltb-true}
use lib.Bits.{or_zero_l}
use lib.Dec.{ltb}
use lib.ListN.{length, set, length-append}
use Rattle.std.specs.Prelude.{None, Some, Result, Ok, Err, OnOk}
use Rattle.sdtd.proofs.Verdicts.{number_some}
use Rattle.sdtd.specs.declared.Refusal.{Refusal}
use Rattle.sdtd.specs.Limits.{most_types}
use Rattle.sdtd.specs.declared.TypeNo.{TypeNo}
use Rattle.command.specs.Command.{command_at}
use Rattle.command.specs.declared.Command.TheVariants.{Expression as AnExpression}
use Rattle.command.specs.declared.Part.TheVariants.{OpenBracket, CloseBracket, Use, Or, Repeat}
use Rattle.expression.specs.Content.{Level, no_level, sequence_of, choice_of, Name, with_factor, failed_inside, after_part}
use Rattle.expression.specs.Expression.{Expression, single, repeat}
use Rattle.expression.specs.Limits.{most_uses, most_brackets}
use Rattle.expression.specs.Parsing.{repeating, ending, level_of, so_far, scan, tables, parsed, then_by, or_by, use_parsed}
use Rattle.expression.specs.Parsing.{closed_by, again_by, one_use, UseSays, BracketSays, RepeatSays, repeats_it, stays_so, Linked}
use Rattle.expression.specs.Parsing.{Outcome, Item, FactorTaken, FactorRefused, FactorRead}
use Rattle.expression.specs.Parsing.{SequenceTaken, SequenceWhole, SequenceRefused}
use Rattle.expression.specs.Parsing.{NextSequence, begins_choice, behind_33, ChoiceTaken, ChoiceWhole, ChoiceRefused}
use Rattle.expression.specs.declared.parsed.Parsed.{Parsed}
use Rattle.expression.specs.declared.tables.Tables.{Tables}
use Rattle.expression.proofs.CommandTests.{part_inside, is_repeat_lem, is_close, ending_is}
use Rattle.expression.proofs.ReadLaws.{own_name, read_none, read_one, read_then, read_or, read_closed, read_again}
use Rattle.expression.proofs.ScanLaws.{scan_fails, scan_part}

-- a use or brackets, before a 34 is looked for
pub record ItemTaken (file : List ℕ) (i depth u : ℕ) (t t' : Tables) (x : Parsed) : Type 0 where
  pub item : Expression
  pub names : List Name
  pub taken : Item file i depth u item names true t t' x

never : {A : Type 0} → false ≡ true → A
never e = absurd (true≢false (sym e))

-- One use. Its questions: the type's range, and the number of uses.
module _ (file : List ℕ) (i depth u : ℕ) (j : TypeNo) (t : Tables) (c : command_at file i ≡ Some (AnExpression (Use j))) where
  use_refused : (n : ℕ) → ¬ (n ≡ 0)
      → ((around : List Level) (l : Level) (before : List Name) (b : Bool) → length before ≡ u
      → failed_inside (so_far around l before b) (Some (AnExpression (Use j))) ≡ n)
      → FactorRefused file i depth u n i
  use_refused n d h around l before b la lb =
      scan_fails file i (so_far around l before b) n (ap (failed_inside (so_far around l before b)) c ∙ h around l before b lb) d

  use_item : ltb j.0 most_types ≡ true → ltb u most_uses ≡ true
      → ItemTaken file i depth u t (tables t.next (set t.types (u + 1) j.0) (set t.places (u + 1) i)) (use_parsed i u)
  unfolding after_part
  use_item p q =
      record {
        item = single j.0;
        names = own_name j.0 i ∷ [];
        taken = record {
          read = read_one u j.0 i t (omega (arith, ltb-true u most_uses q));
          begins = omega (arith, part_inside file i (Use j) c);
          moves = omega arith;
          scans = λ around l before f la lb. scan_part file i (so_far around l before f) (Use j) c (rw (p, lb, q)) refl;
        };
      }

  abbrev UseOutcome : Tables → Result Parsed Refusal → Type 0
  UseOutcome t' r = Outcome (ItemTaken file i depth u t t') (FactorRefused file i depth u) r

  use_cases : (t' : Tables) (p q : Bool) → ltb j.0 most_types ≡ p → ltb u most_uses ≡ q
      → OnOk (one_use i j.0 u) (t' ≡ tables t.next (set t.types (u + 1) j.0) (set t.places (u + 1) i)) → UseOutcome t' (one_use i j.0 u)
  use_cases t' true true e f s =
      let r : one_use i j.0 u ≡ Ok (use_parsed i u) = rw (e, f) in
      let put : t' ≡ tables t.next (set t.types (u + 1) j.0) (set t.places (u + 1) i) = rw r at s in
      rw (r, put) (use_item e f)
  use_cases t' true false e f s = rw (e, f) (use_refused 22 (λ z. omega arith) (λ around l before b lb. rw (e, lb, f)))
  use_cases t' false q e f s = rw e (use_refused 4 (λ z. omega arith) (λ around l before b lb. rw e))

  pub use_says : (t' : Tables) (r : Result Parsed Refusal) → UseSays i j.0 u t t' r → UseOutcome t' r
  use_says t' r s = rw s.0 (use_cases t' (ltb j.0 most_types) (ltb u most_uses) refl refl (rw s.0 at s.1))

-- A choice in a bracket: the 30, the choice, and the command behind it.
module _ (file : List ℕ) (i depth u : ℕ) (c : command_at file i ≡ Some (AnExpression OpenBracket)) where
  pub bracket_refused : most_brackets ≤ depth → FactorRefused file i depth u 23 i
  bracket_refused d around l before b la lb =
      scan_fails file i (so_far around l before b) 23
      (ap (failed_inside (so_far around l before b)) c ∙ rw (la, le-ltb depth most_brackets d)) (λ z. omega arith)

  module _ (d : depth < most_brackets) where
    bracket_opens : (around : List Level) (l : Level) (before : List Name) (b : Bool) → length around ≡ depth
        → scan file i (so_far around l before b) ≡ scan file (i + 1) (so_far (l ∷ around) no_level before false)
    unfolding after_part
    bracket_opens around l before b la =
        scan_part file i (so_far around l before b) OpenBracket c (rw (la, lt-ltb depth most_brackets d)) refl

    deeper : (around : List Level) (l : Level) → length around ≡ depth → length (l ∷ around) ≡ depth + 1
    deeper around l la = omega arith

    -- a refusal inside
    pub inside_refused : (n p : ℕ) → ChoiceRefused file (i + 1) (depth + 1) u n p → FactorRefused file i depth u n p
    inside_refused n p r around l before b la lb = bracket_opens around l before b la ∙ r (l ∷ around) before (deeper around l la) lb

    module _ (t t' : Tables) (x : Parsed) (w : ChoiceWhole file (i + 1) (depth + 1) u t t' x) where
      k : ChoiceTaken file (i + 1) (depth + 1) u t t' x
      k = w.taken

      bracket_item : ending true (command_at file x.at) ≡ 0 → ItemTaken file i depth u t t' (closed_by x)
      unfolding after_part
      bracket_item e =
          record {
            item = choice_of k.level;
            names = k.names;
            taken = record {
              read = read_closed (suc u) (choice_of k.level) k.names t t' x k.read;
              begins = omega (arith, part_inside file i OpenBracket c);
              moves = omega (arith, k.onward);
              scans = λ around l before b la lb. bracket_opens around l before b la ∙ k.scans (l ∷ around) before (deeper around l la) lb
                  ∙ scan_part file x.at (so_far (l ∷ around) k.level (k.names ++ before) k.again) CloseBracket
                  (is_close (command_at file x.at) e) (rw (lt-ltb 0 (suc (length around)) (omega arith))) refl;
            };
          }

      not_closed : ¬ (ending true (command_at file x.at) ≡ 0) → FactorRefused file i depth u (ending true (command_at file x.at)) x.at
      not_closed n around l before b la lb =
          bracket_opens around l before b la ∙ k.scans (l ∷ around) before (deeper around l la) lb
          ∙ scan_fails file x.at (so_far (l ∷ around) k.level (k.names ++ before) k.again) (ending true (command_at file x.at))
          (ending_is (l ∷ around) k.level (k.names ++ before) k.again (command_at file x.at) k.opens_not w.divides_not k.no_repeat) n

      pub bracket_says : (r : Result Parsed Refusal) → BracketSays (command_at file x.at) x r
          → Outcome (ItemTaken file i depth u t t') (FactorRefused file i depth u) r
      bracket_says (Ok y) s = rw s.1 (bracket_item s.0)
      bracket_says (Err e) s = rw (s.0, s.1) (not_closed (λ z. omega (arith, number_some e.why, s.0)))

-- A factor, and its 34.
module _ (file : List ℕ) (i depth u : ℕ) (t t' t'' : Tables) (x : Parsed) (k : ItemTaken file i depth u t t' x) where
  repeat_item : repeating (command_at file x.at) ≡ true → Linked x.last.0 x.first.0 t' t'' → FactorTaken file i depth u t t'' (again_by x)
  unfolding after_part
  repeat_item e l =
      record {
        item = repeat k.item;
        names = k.names;
        again = false;
        taken = record {
          read = read_again (suc u) k.item k.names t t' x k.taken.read t'' l;
          begins = k.taken.begins;
          moves = omega (arith, k.taken.moves);
          scans = λ around m before b la lb. k.taken.scans around m before b la lb
              ∙ scan_part file x.at (so_far around (with_factor k.item m) (k.names ++ before) true) Repeat
              (is_repeat_lem (command_at file x.at) e) refl refl;
        };
        no_repeat = λ a. never a;
      }

  pub repeat_says : (y : Parsed) → RepeatSays file x t' t'' y → FactorTaken file i depth u t t'' y
  repeat_says y (repeats_it e r l) = rw r (repeat_item e l)
  repeat_says y (stays_so e r s) =
      rw (r, s) (record { item = k.item; names = k.names; again = true; taken = k.taken; no_repeat = λ a. e })

-- A sequence, factor by factor.
module _ (file : List ℕ) (i depth u : ℕ) (t : Tables) where
  pub sequence_start : SequenceTaken file i depth u t t (parsed i u true 0 0)
  sequence_start =
      record {
        items = [];
        names = [];
        again = false;
        onward = le_refl i;
        read = read_none u i t;
        no_repeat = λ a. never a;
        scans = λ around ss before la lb. refl;
      }

  module _ (t₁ : Tables) (x : Parsed) (k : SequenceTaken file i depth u t t₁ x) where
    counted : (before : List Name) → length before ≡ u → length (k.names ++ before) ≡ x.uses
    counted before lb = omega (arith, length-append k.names before, k.read.named, k.read.count)

    pub sequence_turn : (t₂ t₃ : Tables) (y : Parsed) → FactorTaken file x.at depth x.uses t₁ t₂ y
        → Linked x.last.0 y.first.0 t₂ t₃ → SequenceTaken file i depth u t t₃ (then_by x y)
    sequence_turn t₂ t₃ y f l =
        record {
          items = f.item ∷ k.items;
          names = f.names ++ k.names;
          again = f.again;
          onward = omega (arith, k.onward, f.taken.moves);
          read = read_then (suc u) (sequence_of k.items) f.item k.names f.names t t₁ t₂ x y k.read f.taken.read t₃ l;
          no_repeat = f.no_repeat;
          scans = λ around ss before la lb. k.scans around ss before la lb
              ∙ f.taken.scans around (level_of ss k.items) (k.names ++ before) k.again la (counted before lb)
              ∙ ap (λ (ns : List Name). scan file y.at (so_far around (level_of ss (f.item ∷ k.items)) ns f.again))
              (sym (append_assoc f.names k.names before));
        }

    pub sequence_refused : (n p : ℕ) → FactorRefused file x.at depth x.uses n p → SequenceRefused file i depth u n p
    sequence_refused n p r around ss before la lb =
        k.scans around ss before la lb ∙ r around (level_of ss k.items) (k.names ++ before) k.again la (counted before lb)

    pub sequence_whole : (t₂ : Tables) → FactorRead file x.at depth x.uses t₁ t₂ None → SequenceWhole file i depth u t t₂ x
    sequence_whole t₂ n = rw n.1 (record { taken = k; opens_not = n.0 })

either_none : (i u : ℕ) (y : Parsed) → or_by (parsed i u false 0 0) y ≡ y
either_none i u y k =
    record {
      at = y.at;
      first = record { 0 = or_zero_l y.first.0 k };
      last = record { 0 = or_zero_l y.last.0 k };
      uses = y.uses;
      nullable = y.nullable;
    }

-- A choice, sequence by sequence.
module _ (file : List ℕ) (i depth u : ℕ) (t : Tables) where
  first_sequence : (t₁ : Tables) (x : Parsed) → SequenceWhole file i depth u t t₁ x → ChoiceTaken file i depth u t t₁ x
  first_sequence t₁ x s =
      let k = s.taken in
      record {
        level = level_of [] k.items;
        names = k.names;
        again = k.again;
        onward = k.onward;
        read = k.read;
        no_repeat = k.no_repeat;
        opens_not = s.opens_not;
        scans = λ around before la lb. k.scans around [] before la lb;
      }

  module _ (t₁ : Tables) (x : Parsed) (k : ChoiceTaken file i depth u t t₁ x) (c : command_at file x.at ≡ Some (AnExpression Or)) where
    abbrev divided : List Expression
    divided = sequence_of k.level.factors ∷ k.level.sequences

    divides_there : (around : List Level) (before : List Name) → length around ≡ depth → length before ≡ u
        → scan file i (so_far around no_level before false) ≡ scan file (x.at + 1) (so_far around (level_of divided []) (k.names ++ before) false)
    unfolding after_part
    divides_there around before la lb =
        k.scans around before la lb ∙ scan_part file x.at (so_far around k.level (k.names ++ before) k.again) Or c refl refl

    counted_too : (before : List Name) → length before ≡ u → length (k.names ++ before) ≡ x.uses
    counted_too before lb = omega (arith, length-append k.names before, k.read.named, k.read.count)

    next_sequence : (t₂ : Tables) (y : Parsed) → SequenceWhole file (x.at + 1) depth x.uses t₁ t₂ y
        → ChoiceTaken file i depth u t t₂ (or_by x y)
    next_sequence t₂ y s =
        let m = s.taken in
        record {
          level = level_of divided m.items;
          names = m.names ++ k.names;
          again = m.again;
          onward = omega (arith, k.onward, m.onward);
          read = read_or (suc u) (choice_of k.level) (sequence_of m.items) k.names m.names t t₁ t₂ x y k.read m.read;
          no_repeat = m.no_repeat;
          opens_not = s.opens_not;
          scans = λ around before la lb. divides_there around before la lb
              ∙ m.scans around divided (k.names ++ before) la (counted_too before lb)
              ∙ ap (λ (ns : List Name). scan file y.at (so_far around (level_of divided m.items) ns m.again))
              (sym (append_assoc m.names k.names before));
        }

    next_refused : (n p : ℕ) → SequenceRefused file (x.at + 1) depth x.uses n p → ChoiceRefused file i depth u n p
    next_refused n p r around before la lb =
        divides_there around before la lb ∙ r around divided (k.names ++ before) la (counted_too before lb)

  -- one sequence more, from where it begins
  module _ (t₁ : Tables) (x : Parsed) (from : ℕ) where
    pub choice_turn : NextSequence file i depth u t t₁ x from → (t₂ : Tables) (y : Parsed) → SequenceWhole file from depth x.uses t₁ t₂ y
        → ChoiceTaken file i depth u t t₂ (or_by x y)
    choice_turn (begins_choice p q r) t₂ y s =
        let counted : x.uses ≡ u = ap (λ (w : Parsed). w.uses) p in
        rw (p, either_none i u y) (first_sequence t₂ y (rw (r, counted, q) at s))
    choice_turn (behind_33 k c r) t₂ y s = next_sequence t₁ x k c t₂ y (rw r at s)

    pub choice_refused : NextSequence file i depth u t t₁ x from → (n p : ℕ) → SequenceRefused file from depth x.uses n p
        → ChoiceRefused file i depth u n p
    choice_refused (begins_choice a b r) n p s =
        let counted : x.uses ≡ u = ap (λ (w : Parsed). w.uses) a in
        let first : SequenceRefused file i depth u n p = rw (r, counted) at s in
        λ around before la lb. first around [] before la lb
    choice_refused (behind_33 k c r) n p s = next_refused t₁ x k c n p (rw r at s)
