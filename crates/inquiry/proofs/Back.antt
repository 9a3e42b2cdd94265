-- What is written is read back.
use Rattle.std.proofs.Common.{◌≡◌, ℕ, ◌+◌, ◌*◌, ◌<◌, ◌≤◌, false, eqb, List, [], ◌∷◌, ◌++◌, length, Some, Ok, Result, refl, ap, ◌∙◌, zero-mul, arith}
use Rattle.std.specs.Int.Digits.{digits_of, number_from_digits, number_from_digits_after, AllBelowBase}
use Rattle.std.proofs.lemmas.Int.Digits.{number_digits_of, all_below_base_digits_of, length-digits_of_step}
use Rattle.std.specs.List.{All}
use Rattle.std.proofs.lemmas.Grind.{common_steps}
use Rattle.std.proofs.lemmas.List.Elements.{All-map}
use Rattle.std.proofs.lemmas.List.Splits.{slice_split_at, slice_split_none}
use Rattle.std.proofs.lemmas.Bool.{cond-false, cond_both, eqb-true}
use Rattle.inquiry.specs.declared.line.Description.{Description}
use Rattle.inquiry.specs.declared.line.Line.{Line}
use Rattle.inquiry.specs.declared.line.Line.TheVariants.{Directory}
use Rattle.inquiry.specs.declared.line.BadLine.{BadLine}
use Rattle.inquiry.specs.Numbers.{read_on, number_of}
use Rattle.inquiry.specs.Fields.{fields}
use Rattle.inquiry.specs.Lines.{line_of, line_of_fields, is_who}
use Rattle.inquiry.specs.Written.{bytes, digits, written, directory_text, ReadsBack}

-- digits are read as the number that they write
read_digits : (base largest so_far : ℕ) (ds : List ℕ) → AllBelowBase base ds → number_from_digits_after base so_far ds ≤ largest → read_on base largest so_far (bytes ds) ≡ Some (number_from_digits_after base so_far ds)
read_digits base largest so_far [] u h = grind (arith, common_steps)
read_digits base largest so_far (d ∷ ds) u h =
    let more = read_digits base largest (so_far * base + d) ds u.1 h in
    grind (arith, common_steps)

-- the digits of a number: each is one of the base, they write the number, and there is one
digits_known : (base n : ℕ) → 2 ≤ base → AllBelowBase base (digits base n) × (number_from_digits base (digits base n) ≡ n) × (0 < length (digits base n))
digits_known base n two =
    cond_both (eqb n 0) (0 ∷ []) (digits_of base n) (λ ds. AllBelowBase base ds × (number_from_digits base ds ≡ n) × (0 < length ds))
    (λ e. ((omega arith, tt), omega (arith, eqb-true n 0 e, zero-mul base), omega arith))
    (λ e. (all_below_base_digits_of base n two, number_digits_of base n two, grind (arith, common_steps, length-digits_of_step)))

-- a text of some digits is read from its first
number_some : (base largest : ℕ) (ds : List ℕ) → 0 < length ds → number_of base largest (bytes ds) ≡ read_on base largest 0 (bytes ds)
number_some base largest [] h = absurd (omega arith)
number_some base largest (d ∷ ds) h = refl

-- a number is read back
number_written : (base largest n : ℕ) → 2 ≤ base → n ≤ largest → number_of base largest (written base n) ≡ Some n
number_written base largest n two h =
    let k = digits_known base n two in
    let more = number_some base largest (digits base n) k.2 in
    let read = read_digits base largest 0 (digits base n) k.0 in
    grind (arith, common_steps)

-- digits hold no space
no_space : (ds : List ℕ) → All (λ byte. eqb byte 32 ≡ false) (bytes ds)
no_space ds = All-map (λ byte. eqb byte 32 ≡ false) (λ digit. 48 + digit) ds (λ k d h. grind (arith, common_steps))

-- the fields of a directory's line
fields_directory : (owner group mode : List ℕ) → fields 32 (bytes owner ++ (32 ∷ (bytes group ++ (32 ∷ bytes mode)))) ≡ bytes owner ∷ bytes group ∷ bytes mode ∷ []
fields_directory owner group mode =
    slice_split_at _ (bytes owner) 32 (bytes group ++ (32 ∷ bytes mode)) (no_space owner) refl
    ∙ ap (λ fs. bytes owner ∷ fs) (slice_split_at _ (bytes group) 32 (bytes mode) (no_space group) refl
    ∙ ap (λ fs. bytes group ∷ fs) (slice_split_none _ (bytes mode) (no_space mode)))

-- a number is not the word of a subject's line
number_no_who : (ds : List ℕ) → AllBelowBase 10 ds → is_who (bytes ds) ≡ false
number_no_who [] u = refl
number_no_who (d ∷ ds) u = grind (arith, common_steps)

-- the line of a directory says that directory
line_of_directory : (d : Description) → d.owner ≤ 65535 → d.group ≤ 255 → d.mode ≤ 4095 → line_of (directory_text d) ≡ Ok (Directory d)
line_of_directory d o g m =
    ap line_of_fields (fields_directory (digits 10 d.owner) (digits 10 d.group) (digits 8 d.mode))
    ∙ cond-false _ _ _ (number_no_who (digits 10 d.owner) (digits_known 10 d.owner (omega arith)).0)
    ∙ rw (number_written 10 65535 d.owner (omega arith) o, number_written 10 255 d.group (omega arith) g, number_written 8 4095 d.mode (omega arith) m)

-- what is read of a directory's line
pub reads_back : (text : List ℕ) (read : Result Line BadLine) → read ≡ line_of text → ReadsBack text read
unfolding ReadsBack
reads_back text read e d o g m w = e ∙ ap line_of w ∙ line_of_directory d o g m
