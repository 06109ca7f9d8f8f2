-- Lists related place by place: their lengths, their elements, one more at the end.
-- What a walk promises of all nets is read off at one net by `everywhere_at`.
use Rattle.std.specs.Prelude.{◌≡◌, ℕ, zero, suc, ◌<◌, List, [], ◌∷◌, ◌++◌, length, slice_index_or, refl}
use Rattle.std.proofs.Common.{ap, ap₂, arith}
use Rattle.signal.specs.Lists.{Everywhere}

module _ {S B : Type 0} (R : S → B → Type 0) where
  pub everywhere_length : (xs : List S) (bs : List B) → Everywhere R xs bs → length xs ≡ length bs
  everywhere_length [] [] a = refl
  everywhere_length [] (b ∷ bs) a = absurd a
  everywhere_length (x ∷ xs) [] a = absurd a
  everywhere_length (x ∷ xs) (b ∷ bs) a = ap suc (everywhere_length xs bs a.1)

  -- the elements at a place, whatever is read past the end
  pub everywhere_at : (xs : List S) (bs : List B) (i : ℕ) (d : S) (e : B) → i < length xs → Everywhere R xs bs → R (slice_index_or xs i d) (slice_index_or bs i e)
  everywhere_at [] bs i d e h a = absurd (omega arith)
  everywhere_at (x ∷ xs) [] i d e h a = absurd a
  everywhere_at (x ∷ xs) (b ∷ bs) zero d e h a = a.0
  everywhere_at (x ∷ xs) (b ∷ bs) (suc i) d e h a = everywhere_at xs bs i d e (omega arith) a.1

  -- the same at every number, where what is read past the ends is related too
  pub everywhere_read : (xs : List S) (bs : List B) (i : ℕ) (d : S) (e : B) → R d e → Everywhere R xs bs → R (slice_index_or xs i d) (slice_index_or bs i e)
  everywhere_read [] [] i d e r a = r
  everywhere_read [] (b ∷ bs) i d e r a = absurd a
  everywhere_read (x ∷ xs) [] i d e r a = absurd a
  everywhere_read (x ∷ xs) (b ∷ bs) zero d e r a = a.0
  everywhere_read (x ∷ xs) (b ∷ bs) (suc i) d e r a = everywhere_read xs bs i d e r a.1

  pub everywhere_push : (xs : List S) (bs : List B) (x : S) (b : B) → Everywhere R xs bs → R x b → Everywhere R (xs ++ (x ∷ [])) (bs ++ (b ∷ []))
  everywhere_push [] [] x b a r = (r, tt)
  everywhere_push [] (c ∷ bs) x b a r = absurd a
  everywhere_push (y ∷ xs) [] x b a r = absurd a
  everywhere_push (y ∷ xs) (c ∷ bs) x b a r = (a.0, everywhere_push xs bs x b a.1 r)

  -- lists are related if they are equally long and their elements are related at each place
  pub everywhere_from : (xs : List S) (bs : List B) → length xs ≡ length bs → ((i : ℕ) (d : S) (e : B) → i < length xs → R (slice_index_or xs i d) (slice_index_or bs i e)) → Everywhere R xs bs
  everywhere_from [] [] n f = tt
  everywhere_from [] (b ∷ bs) n f = absurd (omega arith)
  everywhere_from (x ∷ xs) [] n f = absurd (omega arith)
  everywhere_from (x ∷ xs) (b ∷ bs) n f = (f 0 x b (omega arith), everywhere_from xs bs (omega arith) (λ i d e h. f (suc i) d e (omega arith)))

-- a relation that follows from another
pub everywhere_map : {S B : Type 0} (R Q : S → B → Type 0) (xs : List S) (bs : List B) → ((x : S) (b : B) → R x b → Q x b) → Everywhere R xs bs → Everywhere Q xs bs
everywhere_map R Q [] [] f a = tt
everywhere_map R Q [] (b ∷ bs) f a = absurd a
everywhere_map R Q (x ∷ xs) [] f a = absurd a
everywhere_map R Q (x ∷ xs) (b ∷ bs) f a = (f x b a.0, everywhere_map R Q xs bs f a.1)

-- bits that one value can be related to in one way only
pub everywhere_same : {S B : Type 0} (R Q : S → B → Type 0) (xs : List S) (bs cs : List B) → ((x : S) (b c : B) → R x b → Q x c → b ≡ c) → Everywhere R xs bs → Everywhere Q xs cs → bs ≡ cs
everywhere_same R Q [] [] [] f a e = refl
everywhere_same R Q [] [] (c ∷ cs) f a e = absurd e
everywhere_same R Q [] (b ∷ bs) cs f a e = absurd a
everywhere_same R Q (x ∷ xs) [] cs f a e = absurd a
everywhere_same R Q (x ∷ xs) (b ∷ bs) [] f a e = absurd e
everywhere_same R Q (x ∷ xs) (b ∷ bs) (c ∷ cs) f a e = ap₂ (λ y ys. y ∷ ys) (f x b c a.0 e.0) (everywhere_same R Q xs bs cs f a.1 e.1)
