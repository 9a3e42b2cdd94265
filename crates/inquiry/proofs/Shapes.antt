-- What a line says, by its first four fields.
use Rattle.std.proofs.Common.{◌≡◌, ℕ, Bool, cond, List, [], ◌∷◌, ◌++◌, map, drop, Some, None, Err, Option, Result, Bor, refl, sym, ap, ◌∙◌, subst, arith, take-append-drop}
use denote.Param.Members.{Mut}
use Rattle.std.specs.declared.slice.Split.{Split}
use Rattle.std.specs.Iterator.{Yields}
use Rattle.std.specs.Slice.Iter.{split_steps}
use Rattle.std.proofs.lemmas.Iterator.{YieldsList}
use Rattle.std.proofs.lemmas.Iterator.Consumers.{YieldsList-so_far, YieldsList-turn, YieldsList-end}
use Rattle.inquiry.specs.declared.line.Line.{Line}
use Rattle.inquiry.specs.declared.line.BadLine.{BadLine}
use Rattle.inquiry.specs.declared.line.BadLine.TheVariants.{Shape}
use Rattle.inquiry.specs.Fields.{fields_if}
use Rattle.inquiry.specs.Lines.{directory_of, is_who, line_of_fields, subject_of}

-- the directory of three fields, if there is a third
abbrev pub directory_if : List ℕ → List ℕ → Option (Bor (List ℕ)) → Result Line BadLine
directory_if owner group None = Err Shape
directory_if owner group (Some mode) = directory_of owner group mode.now

-- what a line says by the fields that come one after another, with `None` past the last
abbrev pub said : (a b c d : Option (Bor (List ℕ))) → Result Line BadLine
said None b c d = Err Shape
said (Some a) None c d = Err Shape
said (Some a) (Some b) c None = cond (is_who a.now) (subject_of b.now (fields_if 44 c)) (directory_if a.now b.now c)
said (Some a) (Some b) c (Some d) = Err Shape

module _ {F : Type 0} (g : Mut F (Bor ℕ × Unit {0}) Bool) (fs : List (List ℕ)) where
  -- the line of the fields that came, where no more come
  line_of_all : (s t u : Split ℕ F) (xs : List (Bor (List ℕ))) → YieldsList (split_steps g) (λ f. f.now) s fs → Yields (split_steps g) s xs t → split_steps g t None u → line_of_fields fs ≡ line_of_fields (map (λ f. f.now) xs)
  line_of_all s t u xs e y p = ap line_of_fields (sym (YieldsList-end e xs t y None u refl p).0)

  pub line_of_four : (s t u v w : Split ℕ F) (a b c d : Option (Bor (List ℕ))) → split_steps g s a t → split_steps g t b u → split_steps g u c v → split_steps g v d w
      → YieldsList (split_steps g) (λ f. f.now) s fs → line_of_fields fs ≡ said a b c d
  line_of_four s t u v w None b c d p q r m e = line_of_all s s t [] e refl p
  line_of_four s t u v w (Some a) None c d p q r m e = line_of_all s t u (a ∷ []) e (t, p, refl) q
  line_of_four s t u v w (Some a) (Some b) None None p q r m e = line_of_all s u v (a ∷ b ∷ []) e (t, p, (u, q, refl)) r
  line_of_four s t u v w (Some a) (Some b) None (Some d) p q r m e =
      let ended = YieldsList-end e (a ∷ b ∷ []) u (t, p, (u, q, refl)) None v refl r in
      let more = YieldsList-turn e (a ∷ b ∷ []) u (t, p, (u, q, refl)) (Some d) w d refl (subst (λ z. split_steps g z (Some d) w) r.1 m) in
      absurd (omega (arith, ended.1, more.0))
  line_of_four s t u v w (Some a) (Some b) (Some c) None p q r m e = line_of_all s v w (a ∷ b ∷ c ∷ []) e (t, p, (u, q, (v, r, refl))) m
  line_of_four s t u v w (Some a) (Some b) (Some c) (Some d) p q r m e =
      let first = YieldsList-so_far e (a ∷ b ∷ c ∷ d ∷ []) w (t, p, (u, q, (v, r, (w, m, refl)))) in
      ap line_of_fields (sym (take-append-drop 4 fs)) ∙ ap (λ front. line_of_fields (front ++ drop 4 fs)) (sym first)
