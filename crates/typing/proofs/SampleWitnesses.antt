-- The fourth and the sixth sample's witnesses are the only ones of their schemas, so every call that answers 9 writes these bytes.
use mathlib.Core.Path.{◌≡◌, sym, ap, subst, ◌∙◌}
use mathlib.Core.List.{List, [], ◌∷◌, ◌++◌, head-eq_of_cons-eq}
use Prim.Native.Nat.{ℕ}
use native.Mathlib.Omega.{arith}
use lib.ListN.{length, drop}
use Rattle.sdtd.specs.Schema.{Schema}
use Rattle.sdtd.specs.Competition.{Compete, Witness, by_roots, by_types, witness_bytes}
use Rattle.sdtd.specs.Samples.{schema_choice, schema_two_ways, witness_choice, witness_two_ways}
use Rattle.sdtd.proofs.Witnesses.{parts_of, same_parent}
use Rattle.sdtd.proofs.SampleRivals.{choice_only, ways_only}
use Rattle.sdtd.proofs.SampleSchemas.{refused_choice, refused_two_ways}
use Rattle.competition.specs.Search.{Written}
use Rattle.commands.specs.File.{Commands, schema_by, StatesSchema}
use Rattle.schema_file.specs.Answer.{OfStated}
use Rattle.schema_file.specs.Samples.{FileSample, HoldsFor}
use Rattle.sdtd.specs.Answer.{refused_at}
use Rattle.schema_file.proofs.FileAnswers.{file_unique}
use Rattle.typing.specs.Samples.{SchemaGets}

-- the bytes are these, where the sample's witness is of type 0 and what competes in type 0 is the sample's
only_bytes : {S : Schema} {j k : ℕ} {w bytes : List ℕ} (x : Witness S bytes) → Witness S (witness_bytes 0 j k w)
    → ((v : List ℕ) (m n : ℕ) → Compete S 0 v m n → (v ≡ w) × (m ≡ j) × (n ≡ k)) → bytes ≡ witness_bytes 0 j k w
only_bytes (by_roots x) y only = absurd (omega (arith, same_parent (by_roots x) y, head-eq_of_cons-eq (parts_of y).written))
only_bytes {S} (by_types none x) y only =
    let zero : x.type ≡ 0 = same_parent (by_types none x) y ∙ sym (head-eq_of_cons-eq (parts_of y).written) in
    let c = only x.word x.first x.second (subst (λ (a : ℕ). Compete S a x.word x.first x.second) zero x.compete) in
    x.written ∙ (λ i. witness_bytes (zero i) (c.1 i) (c.2 i) (c.0 i))

pub choice_witness : (bytes : List ℕ) → Witness schema_choice bytes → bytes ≡ witness_choice
choice_witness bytes x = only_bytes {j = 1} {k = 2} {w = []} x refused_choice.2 choice_only

pub ways_witness : (bytes : List ℕ) → Witness schema_two_ways bytes → bytes ≡ witness_two_ways
ways_witness bytes x = only_bytes {j = 2} {k = 3} {w = 1 ∷ []} x refused_two_ways.2 ways_only

-- A sample that is answered 9, where its witness is the schema's only one.
pub nine_gets : (s : FileSample) {S : Schema} → s.answer ≡ refused_at 9 0 → StatesSchema s.bytes S → HoldsFor s
    → ((other : List ℕ) → Witness S other → other ≡ s.witness) → SchemaGets s
nine_gets s nine x h only was is f l m =
    let same = file_unique s.bytes was m.answer (h was l).0 in
    let w : Written (schema_by x.stated) was is =
    subst (λ (k : Commands). OfStated k (λ g. Written (schema_by g) was is)) x.passes (m.buffer.0 (same ∙ nine)) in
    let bytes = only w.bytes (subst (λ (R : Schema). Witness R w.bytes) x.schema w.witness) in
    (same, w.filled ∙ ap (λ (b : List ℕ). b ++ drop (length b) was) bytes)
