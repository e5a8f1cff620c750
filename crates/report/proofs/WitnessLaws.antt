-- The text of a schema that is answered 9: its second line is that of a witness of the schema that the file states, and only its J and K are
-- the program's choice.
use mathlib.Core.Path.{◌≡◌, refl, sym, ap, subst, subst₂, ◌∙◌}
use mathlib.Core.Logic.{◌⊎◌, inl, inr, ⊎_elim}
use mathlib.Core.List.{List, ◌++◌}
use Prim.Native.Nat.{ℕ, ◌≤◌}
use native.Mathlib.Decide.{ℕ_discrete}
use lib.ListN.{length, take, drop, replicate}
use Rattle.text.specs.Line.{line_end}
use Rattle.sdtd.specs.Limits.{least_witness}
use Rattle.sdtd.specs.Schema.{Schema as Meaning}
use Rattle.sdtd.specs.Competition.{Witness}
use Rattle.std.specs.Prelude.{Result, Ok, Err}
use Rattle.sdtd.specs.Answer.{Verdict, fine, refused_at, question_number, verdict_of}
use Rattle.sdtd.specs.declared.Refusal.{Refusal}
use Rattle.schema.specs.declared.value.Schema.{Schema}
use Rattle.sdtd.specs.declared.TypeNo.{TypeNo}
use Rattle.sdtd.proofs.Verdicts.{same_number, same_place, other_number, refused_not_fine}
use Rattle.sdtd.proofs.Witnesses.{parts_of}
use Rattle.competition.specs.Witness.{head_of}
use Rattle.competition.proofs.Answers.{head_written}
use Rattle.commands.specs.File.{StatesSchema}
use Rattle.schema_file.specs.Answer.{AnswerIs, FileMeans}
use Rattle.schema_file.proofs.FileAnswers.{file_unique}
use Rattle.schema_file.proofs.OneWitness.{AnsweredNine, nine_zero, nine_written, one_witness}
use Rattle.report.specs.Words.{schema_refused, after}
use Rattle.report.specs.Text.{numbered, refusal_line, rivals, witness_line, schema_refused_text, text_of}
use Rattle.report.specs.ExpectedText.{expected_text_of}
use Rattle.report.specs.Report.{most_schema, most_events, JobPrinted, PrintedBy, Printed}
use Rattle.report.specs.ExpectedReport.{ExpectedPrinted}

-- `type A gives J or K after n`, of a witness
abbrev pub line_of : {S : Meaning} {bytes : List ℕ} → Witness S bytes → List ℕ
line_of w =
    let p = parts_of w in
    rivals p.parent p.first p.second ++ (numbered after (length p.word) ++ line_end)

-- "A refused schema prints only `schema refused N at P` and, for 9, a line `type A gives J or K after n`": A, J, K and n are those of a
-- witness of the schema that the file states.
pub record NinePrinted (file text : List ℕ) : Type 0 where
  pub schema : Meaning
  pub stated : StatesSchema file schema
  pub bytes : List ℕ
  pub witness : Witness schema bytes
  pub prints : text ≡ refusal_line schema_refused 9 0 ++ line_of witness

-- the line of the witness's bytes, whatever follows them
line_written : {S : Meaning} {bytes : List ℕ} (w : Witness S bytes) (rest : List ℕ) → witness_line (head_of (bytes ++ rest)) ≡ line_of w
unfolding witness_line
line_written w rest = ap witness_line (head_written w rest)

-- A text that is printed from the witness buffer as the schema file's call left it: of a refused schema it is that schema's.
pub record FromFile (file text : List ℕ) : Type 0 where
  pub witness : List ℕ
  pub read : Result Schema Refusal
  pub means : FileMeans file (replicate least_witness 0) witness read
  pub refused : {n p : ℕ} → verdict_of read ≡ refused_at n p → text ≡ schema_refused_text witness n p

-- a refusal as the code has it
refusal_of : {A : Type 0} (r : Result A Refusal) {n p : ℕ} → verdict_of r ≡ refused_at n p
    → (e : Refusal) × (r ≡ Err e) × (question_number e.why ≡ n) × (e.place ≡ p)
refusal_of (Ok x) q = refused_not_fine q refl
refusal_of (Err e) q = (e, refl, same_number q, same_place q)

-- so is the text of a job, and that of what would have been taken
pub from_job : {file events text : List ℕ} → JobPrinted file events text → FromFile file text
from_job {events = events} a =
    record {
      witness = a.witness;
      read = a.means.file;
      means = a.means.schema_file;
      refused = λ q.
          let (e, is, n, p) = refusal_of a.means.file q in
          rw (n, p) at (a.prints ∙ ap (text_of events a.witness a.types) (a.means.refused e is).0);
    }

pub from_expected : {file events text : List ℕ} → ExpectedPrinted file events text → FromFile file text
from_expected a =
    record {
      witness = a.witness;
      read = a.means.file;
      means = a.means.schema_file;
      refused = λ q.
          let (e, is, n, p) = refusal_of a.means.file q in
          rw (n, p) at (a.prints ∙ ap (expected_text_of a.witness) (a.means.refused e is));
    }

-- the schema file is answered 9, and its witness buffer left so
abbrev answered : {file text : List ℕ} {p : ℕ} (x : FromFile file text) → AnswerIs file (replicate least_witness 0) (refused_at 9 p)
    → AnsweredNine file x.witness
answered {file} {p = p} x r =
    let was : List ℕ = replicate least_witness 0 in
    record { was = was; read = x.read; means = x.means; place = p; answer = file_unique file was x.means.answer r }

-- where the schema file is answered 9, the second line is that of a witness of the schema that the file states
line_from : {file text : List ℕ} {p : ℕ} → FromFile file text → AnswerIs file (replicate least_witness 0) (refused_at 9 p) → NinePrinted file text
line_from x r =
    let was : List ℕ = replicate least_witness 0 in
    let k = answered x r in
    let n = nine_written k in
    let w = n.written in
    record {
      schema = n.schema;
      stated = n.stated;
      bytes = w.bytes;
      witness = w.witness;
      prints =
          x.refused (nine_zero k)
          ∙ ap (λ (l : List ℕ). refusal_line schema_refused 9 0 ++ l)
          (ap (λ (l : List ℕ). witness_line (head_of l)) w.filled ∙ line_written w.witness (drop (length w.bytes) was));
    }

-- Where the schema file is answered 9, the second line that a program prints is that of a witness of the schema that the file states.
module _ {schema events text : List ℕ} {p : ℕ} (long : length events ≤ most_events)
    (r : AnswerIs (take most_schema schema) (replicate least_witness 0) (refused_at 9 p)) where
  pub nine_line : Printed schema events text → NinePrinted (take most_schema schema) text
  nine_line x = line_from (from_job (x.answered long)) r

  pub expected_nine_line : PrintedBy ExpectedPrinted schema events text → NinePrinted (take most_schema schema) text
  expected_nine_line x = line_from (from_expected (x.answered long)) r

-- The text for 9 with this A and this n, and some J and K.
pub record NineText (a n : ℕ) (text : List ℕ) : Type 0 where
  pub j : ℕ
  pub k : ℕ
  pub prints : text ≡ refusal_line schema_refused 9 0 ++ (rivals a j k ++ (numbered after n ++ line_end))

-- The schema file is answered 9, and the two texts for it have one A and one n.
pub record NineTexts (file s t : List ℕ) : Type 0 where
  pub answer : AnswerIs file (replicate least_witness 0) (refused_at 9 0)
  pub a : ℕ
  pub n : ℕ
  pub first : NineText a n s
  pub second : NineText a n t

-- the text of a file that is answered 9, by its witness buffer
nine_text : {file text : List ℕ} (x : FromFile file text) → verdict_of x.read ≡ refused_at 9 0
    → NineText (head_of x.witness).of.0 (head_of x.witness).word text
unfolding witness_line
nine_text x q =
    let h = head_of x.witness in
    record { j = h.first.0; k = h.second.0; prints = x.refused q }

-- Two texts that are printed for the same files, where the schema file is answered 9, differ at most in J and K.
pub nine_texts : {file s t : List ℕ} {p : ℕ} → FromFile file s → FromFile file t → AnswerIs file (replicate least_witness 0) (refused_at 9 p)
    → NineTexts file s t
nine_texts {file} {t = t} x y r =
    let u = answered x r in
    let v = answered y r in
    let same = one_witness u v in
    record {
      answer = subst (AnswerIs file (replicate least_witness 0)) (nine_zero u) x.means.answer;
      a = (head_of x.witness).of.0;
      n = (head_of x.witness).word;
      first = nine_text x (nine_zero u);
      second =
          subst₂ (λ (a n : ℕ). NineText a n t) (ap (λ (k : TypeNo). k.0) (sym same.of)) (sym same.word) (nine_text y (nine_zero v));
    }

-- a file is answered 9, or not
nine_or_other : (v : Verdict) → ((p : ℕ) × (v ≡ refused_at 9 p)) ⊎ ((p : ℕ) → ¬ (v ≡ refused_at 9 p))
nine_or_other fine = inr (λ p q. refused_not_fine q refl)
nine_or_other (refused_at n p) =
    elim (ℕ_discrete n 9) [
      | yes e ↦ inl (p, ap (λ (k : ℕ). refused_at k p) e)
      | no d ↦ inr (λ l. other_number refl d)
    ]

-- Two texts that are printed for the same files are one, if they are so where the schema file is not answered 9; or they differ at most in J and K.
pub one_or_nine : {file s t : List ℕ} → FromFile file s → FromFile file t
    → (((p : ℕ) → ¬ AnswerIs file (replicate least_witness 0) (refused_at 9 p)) → s ≡ t) → (s ≡ t) ⊎ NineTexts file s t
one_or_nine {file} x y other =
    let was : List ℕ = replicate least_witness 0 in
    ⊎_elim (λ z. inr (nine_texts x y (subst (AnswerIs file was) z.1 x.means.answer)))
    (λ d. inl (other (λ p r. d p (file_unique file was x.means.answer r)))) (nine_or_other (verdict_of x.read))
