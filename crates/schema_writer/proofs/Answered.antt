-- What each answer of the writer's call means.
use mathlib.Core.Path.{◌≡◌, refl, sym, ap, subst, ◌∙◌}
use mathlib.Core.Logic.{inl, inr, ⊎_elim}
use mathlib.Core.Bool.{Bool, false}
use mathlib.Core.List.{List, [], ◌∷◌, ◌++◌}
use Prim.Native.Nat.{ℕ, ◌≤◌, ◌<◌}
use native.Mathlib.Omega.{arith}
use lib.Dec.{T, ltb, lt→ltb}
use lib.ListN.{length, get_or, take, drop}
use lib.Seq.{sets, take_all, length-take-le}
use Rattle.std.specs.Prelude.{All}
use Rattle.std.proofs.lemmas.List.{get_or-take}
use Rattle.std.proofs.lemmas.List.Elements.{All-get_or}
use Rattle.sdtd.specs.Limits.{most_types, least_witness}
use Rattle.sdtd.specs.Schema.{Schema as Meaning, WithinLimits}
use Rattle.sdtd.specs.Trim.{Used}
use Rattle.std.specs.Prelude.{min, Ok, Err}
use Rattle.sdtd.specs.Answer.{Ordered, Verdict, fine, refused_at, question_number}
use Rattle.sdtd.specs.declared.Refusal.{Refusal}
use Rattle.sdtd.specs.Reduced.{TellsUsed}
use Rattle.sdtd.specs.Output.{Output, writes, writes_nothing, Length}
use Rattle.sdtd.proofs.Basics.{and_parts, and_both}
use Rattle.sdtd.proofs.Trimming.{used_useful}
use Rattle.sdtd.proofs.Verdicts.{same_number, refused_not_fine}
use Rattle.sdtd.proofs.Within.{bears_within}
use Rattle.schema.specs.Value.{meaning}
use Rattle.schema.specs.Trimming.{UsedMeans}
use Rattle.schema.specs.declared.value.Schema.{Schema}
use Rattle.schema.proofs.Values.{types_count}
use Rattle.competition.specs.Questions.{root_asked, competition_asked}
use Rattle.competition.specs.Search.{JudgeMeans}
use Rattle.command.specs.Command.{file_of}
use Rattle.commands.specs.File.{Commands, stopped, states, commands, StatesSchema}
use Rattle.commands.specs.Answer.{CommandsBy}
use Rattle.commands.proofs.StatedLimits.{stated_within}
use Rattle.text.proofs.LaidLaws.{sets_start}
use Rattle.schema_writer.specs.Left.{commands_left}
use Rattle.text.specs.Page.{most_counted}
use Rattle.schema_writer.specs.Laying.{kept_by, KeptBelow}
use Rattle.schema_writer.specs.Answer.{ReducedFile, room_asked, Writes, OutputBy}
use Rattle.schema_writer.proofs.RewriteSame.{every_kept}

-- a verdict is one refusal
same_refusal : (was : List ℕ) {a : Verdict} {n p m q : ℕ} → a ≡ refused_at n p → a ≡ refused_at m q → writes_nothing was n ≡ writes_nothing was m
same_refusal was o e = ap (λ (k : ℕ). writes_nothing was k) (same_number (sym o ∙ e))

-- The refusal of questions 2 to 7 or 21 to 23 is the writer's.
module _ (file was : List ℕ) (e : Refusal) where
  by_commands : (k : Commands) → CommandsBy k (Err e) → OutputBy file k was (writes_nothing was (question_number e.why))
  by_commands (stopped m q) b = same_refusal was refl b
  by_commands (states g) (inl b, v) = inl (b.0, same_refusal was refl b.1)
  by_commands (states g) (inr b, v) = refused_not_fine refl b.1

  pub commands_refused : CommandsBy (commands file) (Err e) → OutputBy file (commands file) was (writes_nothing was (question_number e.why))
  commands_refused b = by_commands (commands file) b

-- Questions 2 to 7 and 21 to 23 are passed: the file states the schema of the value.
module _ (file : List ℕ) (v : Schema) where
  by_passed : (k : Commands) → commands file ≡ k → CommandsBy k (Ok v) → StatesSchema file (meaning v)
  by_passed (stopped m q) e b = refused_not_fine b refl
  by_passed (states g) e (inl b, h) = refused_not_fine b.1 refl
  by_passed (states g) e (inr b, h) = record { stated = g; passes = e; known = b.0; schema = sym h.schema }

  pub commands_passed : CommandsBy (commands file) (Ok v) → StatesSchema file (meaning v)
  commands_passed b = by_passed (commands file) refl b

module _ {file : List ℕ} {S : Meaning} (x : StatesSchema file S) where
  pub stated_inside : WithinLimits S
  stated_inside = subst WithinLimits x.schema (stated_within file x.stated x.passes x.known)

  -- what is asked of the schema decides
  module _ (was : List ℕ) where
    by_schema : {o : Output} → Ordered (root_asked (writes_nothing was 8) S ∷ competition_asked (writes_nothing was 9) S ∷ []) (Writes file S was) o
        → OutputBy file (commands file) was o
    by_schema {o} y =
        subst (λ (k : Commands). OutputBy file k was o) (sym x.passes)
        (inr (
          x.known,
          subst (λ (R : Meaning). Ordered (root_asked (writes_nothing was 8) R ∷ competition_asked (writes_nothing was 9) R ∷ []) (Writes file R was) o)
              (sym x.schema) y,
        ))

    module _ {buffer is : List ℕ} {r : Verdict} (long : least_witness ≤ length buffer) (m : JudgeMeans S buffer is r) where
      pub judged_refused : {n p : ℕ} → r ≡ refused_at n p → OutputBy file (commands file) was (writes_nothing was n)
      judged_refused o =
          ⊎_elim (λ a. absurd (a.0 long))
          (λ a.
          ⊎_elim (λ b. absurd (b.0 stated_inside))
          (λ b.
          ⊎_elim (λ d. by_schema (inl (d.0, same_refusal was o d.1)))
          (λ d. ⊎_elim (λ e. by_schema (inr (d.0, inl (e.0, same_refusal was o e.1)))) (λ e. refused_not_fine o e.1) d.1) b.1) a.1)
          m.answer

      pub judged_fine : r ≡ fine → {o : Output} → Writes file S was o → OutputBy file (commands file) was o
      judged_fine f w =
          ⊎_elim (λ a. absurd (a.0 long))
          (λ a.
          ⊎_elim (λ b. absurd (b.0 stated_inside))
          (λ b.
          ⊎_elim (λ d. refused_not_fine d.1 f)
          (λ d. ⊎_elim (λ e. refused_not_fine e.1 f) (λ e. by_schema (inr (d.0, inr (e.0, w)))) d.1) b.1) a.1) m.answer

-- The table of the used types keeps exactly these.
module _ {S : Meaning} {used : List Bool} (w : WithinLimits S) (m : UsedMeans S used) where
  used_below : {a : ℕ} → Used S a → a < length S.blocks
  used_below u = (bears_within w (used_useful u).1).0

  pub kept_used : TellsUsed S (kept_by used)
  kept_used a = (
    λ t. (m.exact w a).0 (and_parts (ltb a most_types) (get_or used a false) t).1,
    λ u. and_both (ltb a most_types) (get_or used a false) (lt→ltb a most_types (omega (arith, used_below u, w.types_most))) ((m.exact w a).1 u),
  )

  pub reduced_file : (file : List ℕ) → ReducedFile file S (file_of (commands_left (kept_by used) S file))
  reduced_file file = record { kept = kept_by used; tells_used = kept_used; is = refl }

pub kept_below : (v : Schema) {used : List Bool} → WithinLimits (meaning v) → UsedMeans (meaning v) used → KeptBelow used v.types
kept_below v w m = record { below = λ a t. omega (arith, used_below w m ((kept_used w m a).0 t), types_count v) }

-- bytes that fit, laid from the buffer's start on
pub sets_whole : (was bytes : List ℕ) → length bytes ≤ length was → sets was 0 bytes ≡ bytes ++ drop (length bytes) was
sets_whole was bytes fits = sets_start was bytes ∙ ap (λ (l : List ℕ). l ++ drop (length bytes) was) (take_all (length was) bytes fits)

-- What is left of the file was measured, r bytes.
module _ {file : List ℕ} {S : Meaning} {bytes : List ℕ} (x : ReducedFile file S bytes) {r : ℕ} (m : r ≡ min (length bytes) most_counted)
    (was : List ℕ) where
  pub short_writes : length was < r → Writes file S was (writes_nothing was 20)
  short_writes l = record { bytes = bytes; reduced = x; output = inl (λ h. omega (arith, m), refl) }

  pub fits_writes : r ≤ length was → length was < most_counted → {is : List ℕ} → is ≡ sets was 0 bytes
      → Writes file S was (record { answer = Length r; buffer = is })
  fits_writes l short {is} k =
      let same : r ≡ length bytes = omega (arith, m) in
      let fits : length bytes ≤ length was = omega arith in
      let filled : is ≡ bytes ++ drop (length bytes) was = k ∙ sets_whole was bytes fits in
      record {
        bytes = bytes;
        reduced = x;
        output = inr (fits, λ i. record { answer = Length (same i); buffer = filled i });
      }

-- where each of the first types is kept by its entry, it is kept by the table
pub each_kept : (used : List Bool) (n : ℕ) → n ≤ most_types → length used ≡ most_types → All T (take n used) → (a : ℕ) → a < n → T (kept_by used a)
each_kept used n m l all a b =
    let long = length-take-le n used (omega arith) in
    and_both (ltb a most_types) (get_or used a false) (lt→ltb a most_types (omega arith))
    (subst T (get_or-take n used a false b) (All-get_or T (take n used) a false (omega arith) all))

-- A file whose types are all kept is what is left of it.
module _ {file : List ℕ} (v : Schema) {used : List Bool} (x : StatesSchema file (meaning v)) (m : UsedMeans (meaning v) used)
    (all : (a : ℕ) → a < v.types → T (kept_by used a)) where
  same_file : file_of (commands_left (kept_by used) (meaning v) file) ≡ file
  same_file = every_kept (kept_by used) x (λ a l. all a (omega (arith, types_count v)))

  pub same_writes : {was : List ℕ} {o : Output} → Ordered (room_asked was file ∷ []) (λ y. y ≡ writes was file) o → Writes file (meaning v) was o
  same_writes y =
      let left : ReducedFile file (meaning v) file =
      record { kept = kept_by used; tells_used = kept_used (stated_inside x) m; is = sym same_file } in
      record { bytes = file; reduced = left; output = y }
