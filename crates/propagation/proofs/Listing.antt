-- One place more, and one clause more, in the lists of places.
use Rattle.std.proofs.Common.{◌≡◌, ℕ, ◌+◌, ◌<◌, ◌≤◌, ◌≢◌, List, length, get_or, set, ℤ, pos, sym, ap, ◌∙◌, subst, add-one, arith, length-set, get_or-set_other, get_or-set_same}
use native.Mathlib.Decide.{ℕ_discrete}
use Rattle.propagation.specs.Occurrences.{key, last_before, start_of, nowhere, literal_at, first_other, second_other, Headed, Linked, Paired, Spanned, Listed}
use Rattle.propagation.specs.declared.occurrence.Occurrence.{Occurrence}
use Rattle.propagation.proofs.Lasts.{last_same, last_other, last_none}

pub headed_none : (row : List ℤ) (lasts : List ℕ) → ((k : ℕ) → k < length lasts → get_or lasts k 0 ≡ 0) → Headed row lasts 0
headed_none row lasts h k g = h k g ∙ sym (last_none row k)

pub headed_more : (row : List ℤ) (lasts : List ℕ) (p : ℕ) → Headed row lasts p → Headed row (set lasts (key (get_or row p (pos 0))) (p + 1)) (p + 1)
headed_more row lasts p h k g = go (ℕ_discrete k (key (get_or row p (pos 0)))) where
  n : length (set lasts (key (get_or row p (pos 0))) (p + 1)) ≡ length lasts
  n = length-set lasts (key (get_or row p (pos 0))) (p + 1)

  go : Dec (k ≡ key (get_or row p (pos 0))) → get_or (set lasts (key (get_or row p (pos 0))) (p + 1)) k 0 ≡ last_before row k (p + 1)
  go (yes e) =
      let b : key (get_or row p (pos 0)) < length lasts = omega (arith, g, n, e) in
      ap (λ i. get_or (set lasts (key (get_or row p (pos 0))) (p + 1)) i 0) e
      ∙ get_or-set_same lasts (key (get_or row p (pos 0))) (p + 1) 0 b
      ∙ add-one p
      ∙ sym (ap (last_before row k) (add-one p) ∙ last_same row k p (sym e))
  go (no e) =
      get_or-set_other lasts (key (get_or row p (pos 0))) k (p + 1) 0 e
      ∙ h k (omega (arith, g, n))
      ∙ sym (ap (last_before row k) (add-one p) ∙ last_other row k p (λ f. e (sym f)))

-- what holds of the places below p, and of p, holds below p + 1
pub linked_more : (row : List ℤ) (width : ℕ) (places : List Occurrence) (p : ℕ) (o : Occurrence) → p < length places → Linked row width places p → (key (get_or row p (pos 0)) < width → o.before ≡ last_before row (key (get_or row p (pos 0))) p) → Linked row width (set places p o) (p + 1)
linked_more row width places p o b h e q g w = go (ℕ_discrete q p) where
  go : Dec (q ≡ p) → (get_or (set places p o) q nowhere).before ≡ last_before row (key (get_or row q (pos 0))) q
  go (yes f) =
      let k : key (get_or row p (pos 0)) < width = omega (arith, w, ap (λ i. key (get_or row i (pos 0))) f) in
      ap (λ i. (get_or (set places p o) i nowhere).before) f ∙ ap (λ (x : Occurrence). x.before) (get_or-set_same places p o nowhere b) ∙ e k ∙ ap (λ i. last_before row (key (get_or row i (pos 0))) i) (sym f)
  go (no f) = ap (λ (x : Occurrence). x.before) (get_or-set_other places p q o nowhere f) ∙ h q (omega (arith, f, g)) w

pub paired_more : (row : List ℤ) (places : List Occurrence) (p : ℕ) (o : Occurrence) → p < length places → Paired row places p → o.first ≡ literal_at row o.to (first_other o.from p) → o.second ≡ literal_at row o.to (second_other o.from p) → Paired row (set places p o) (p + 1)
paired_more row places p o b h e f q g = go (ℕ_discrete q p) where
  go : Dec (q ≡ p) → ((get_or (set places p o) q nowhere).first ≡ literal_at row (get_or (set places p o) q nowhere).to (first_other (get_or (set places p o) q nowhere).from q)) × ((get_or (set places p o) q nowhere).second ≡ literal_at row (get_or (set places p o) q nowhere).to (second_other (get_or (set places p o) q nowhere).from q))
  go (yes i) =
      let s : get_or (set places p o) q nowhere ≡ o = ap (λ j. get_or (set places p o) j nowhere) i ∙ get_or-set_same places p o nowhere b in
      subst (λ (x : Occurrence). (x.first ≡ literal_at row x.to (first_other x.from q)) × (x.second ≡ literal_at row x.to (second_other x.from q))) (sym s) (e ∙ ap (λ j. literal_at row o.to (first_other o.from j)) (sym i), f ∙ ap (λ j. literal_at row o.to (second_other o.from j)) (sym i))
  go (no i) = subst (λ (x : Occurrence). (x.first ≡ literal_at row x.to (first_other x.from q)) × (x.second ≡ literal_at row x.to (second_other x.from q))) (sym (get_or-set_other places p q o nowhere i)) (h q (omega (arith, i, g)))

pub span_more : (places : List Occurrence) (from to p : ℕ) (o : Occurrence) → p < length places → o.from ≡ from → o.to ≡ to → ((q : ℕ) → from ≤ q → q < p → ((get_or places q nowhere).from ≡ from) × ((get_or places q nowhere).to ≡ to)) → (q : ℕ) → from ≤ q → q < p + 1 → ((get_or (set places p o) q nowhere).from ≡ from) × ((get_or (set places p o) q nowhere).to ≡ to)
span_more places from to p o b e f h q g l = go (ℕ_discrete q p) where
  go : Dec (q ≡ p) → ((get_or (set places p o) q nowhere).from ≡ from) × ((get_or (set places p o) q nowhere).to ≡ to)
  go (yes i) =
      let s : get_or (set places p o) q nowhere ≡ o = ap (λ j. get_or (set places p o) j nowhere) i ∙ get_or-set_same places p o nowhere b in
      (ap (λ (x : Occurrence). x.from) s ∙ e, ap (λ (x : Occurrence). x.to) s ∙ f)
  go (no i) =
      let s = get_or-set_other places p q o nowhere i in
      let r = h q g (omega (arith, i, l)) in
      (ap (λ (x : Occurrence). x.from) s ∙ r.0, ap (λ (x : Occurrence). x.to) s ∙ r.1)

pub kept_more : (places entry : List Occurrence) (from p : ℕ) (o : Occurrence) → from ≤ p → ((q : ℕ) → q < from → get_or places q nowhere ≡ get_or entry q nowhere) → (q : ℕ) → q < from → get_or (set places p o) q nowhere ≡ get_or entry q nowhere
kept_more places entry from p o b h q g = let n : q ≢ p = omega arith in get_or-set_other places p q o nowhere n ∙ h q g

-- one clause more
pub spanned_more : (ends : List ℕ) (old places : List Occurrence) (c from to : ℕ) → from ≡ start_of ends c → to ≡ get_or ends c 0 → ((d p : ℕ) → d < c → p < get_or ends d 0 → p < from) → Spanned ends old c → ((p : ℕ) → from ≤ p → p < to → ((get_or places p nowhere).from ≡ from) × ((get_or places p nowhere).to ≡ to)) → ((p : ℕ) → p < from → get_or places p nowhere ≡ get_or old p nowhere) → Spanned ends places (c + 1)
spanned_more ends old places c from to ef et below h s k d p g i j = go (ℕ_discrete d c) where
  go : Dec (d ≡ c) → ((get_or places p nowhere).from ≡ start_of ends d) × ((get_or places p nowhere).to ≡ get_or ends d 0)
  go (yes e) =
      let a : start_of ends d ≡ from = ap (start_of ends) e ∙ sym ef in
      let b : get_or ends d 0 ≡ to = ap (λ n. get_or ends n 0) e ∙ sym et in
      let r = s p (omega (arith, a, i)) (omega (arith, b, j)) in
      (r.0 ∙ sym a, r.1 ∙ sym b)
  go (no e) =
      let q = k p (below d p (omega (arith, e, g)) j) in
      let r = h d p (omega (arith, e, g)) i j in
      (ap (λ (x : Occurrence). x.from) q ∙ r.0, ap (λ (x : Occurrence). x.to) q ∙ r.1)

pub listed_as : (row : List ℤ) (ends lasts heads : List ℕ) (places links : List Occurrence) → heads ≡ lasts → links ≡ places → Listed row ends lasts places → Listed row ends heads links
listed_as row ends lasts heads places links p q h = subst (λ (x : List ℕ). Listed row ends x links) (sym p) (subst (λ (x : List Occurrence). Listed row ends lasts x) (sym q) h)
