-- Both solvers keep the promises.
use Rattle.std.proofs.Common.{◌≡◌, ℕ, zero, suc, ◌+◌, ◌-◌, ◌^◌, ◌≤◌, Bool, true, List, [], ◌∷◌, length, take, replicate, ℤ, Some, None, sym, refl, ◌∙◌, true≢false, pow-suc, add-one, arith, pow_mono}
use lib.ListN.{length-map, length-replicate}
use Rattle.solving.specs.Settings.{Within, full, reading_of, open_in}
use Rattle.solving.specs.Readings.{satisfies}
use Rattle.solving.specs.Leading.{leads}
use Rattle.solving.specs.Trials.{Answer, found, none, undecided, steps_of}
use Rattle.solving.specs.Backtracking.{backtracking, lowest}
use Rattle.solving.specs.Counting.{try_each, settings, counting}
use Rattle.solving.specs.SearchLaws.{Sound, Counted}
use Rattle.solving.specs.Promises.{BacktrackingAnswers, CountingAnswers}
use Rattle.solving.specs.Backtracking.{backtracked}
use Rattle.solving.specs.Counting.{counted}
use Rattle.solving.proofs.Outcomes.{Promised, Solves, answers}
use Rattle.solving.proofs.Closures.{keeps}
use Rattle.solving.proofs.Sounds.{backtracks}
use Rattle.solving.proofs.Costs.{settled, lowest_law, open_within, leads_within, lead_length, decided_weaker}
use Rattle.solving.proofs.Tallies.{Tally, Among, among_settings, settings_long, settings_length, tallied, each_steps, each_decided}

fresh_within : (v : ℕ) (r : List Bool) → length r ≡ v → Within (replicate v None) (full r)
fresh_within v r e = open_within v (full r) (simp length-map (sym e))

sound_promised : (cs : List (List ℤ)) (v : ℕ) (ans : Answer) → Sound cs (replicate v None) ans → Promised cs v ans
sound_promised cs v (found b s) h = let l : length b ≡ v = h.long ∙ length-replicate v None in record { long = l; set = rw l at h.set; holds = h.holds }
sound_promised cs v (none s) h = λ r e f. h r (fresh_within v r e) f
sound_promised cs v (undecided s) h = tt

counted_steps : (budget : ℕ) (ans : Answer) → Counted budget 0 ans → steps_of ans ≤ budget
counted_steps budget (found b t) c = c.1
counted_steps budget (none t) c = c.1
counted_steps budget (undecided t) c = omega arith

pub backtracking_solves : (cs : List (List ℤ)) (v k budget : ℕ) → k ≤ v → Solves cs v k budget (backtracking lowest cs budget (replicate v None))
backtracking_solves cs v k budget kv =
    let h = backtracks lowest lowest_law.0 cs budget (replicate v None) in
    record {
      promised = sound_promised cs v (backtracking lowest cs budget (replicate v None)) h.0;
      counted = counted_steps budget (backtracking lowest cs budget (replicate v None)) h.1;
      settled = λ led b. settled lowest cs budget v k lowest_law.0 (lowest_law.1 k) led kv b;
    }

full_set : (k : ℕ) (r : List Bool) → open_in k (full r) ≡ 0
full_set zero r = refl
full_set (suc k) [] = refl
full_set (suc k) (b ∷ r) = let h = full_set k r in omega arith

tally_promised : (cs : List (List ℤ)) (v k : ℕ) → k ≤ v → (ans : Answer) → Tally cs v (settings k) ans → Promised cs v ans
tally_promised cs v k kv (found b s) t = t
tally_promised cs v k kv (undecided s) t = tt
tally_promised cs v k kv (none s) t = λ r e f. go r e f where
  go : (r : List Bool) → length r ≡ v → satisfies r cs ≡ true → ⊥
  go r e f =
      let l : length (full r) ≡ length r = length-map r Some in
      let bs : List Bool = reading_of (take k (full r)) in
      let n : length bs ≡ k = lead_length k (full r) (omega arith) in
      let w : Within (leads v bs) (full r) = rw n (leads_within k (v - k) (full r) (omega arith) (full_set k r)) in
      let a : Among bs (settings k) = rw n at (among_settings bs) in
      true≢false (sym (t bs a) ∙ (keeps cs (leads v bs) r w f).1)

pub counting_solves : (cs : List (List ℤ)) (v k budget : ℕ) → 1 ≤ k → k ≤ v → Solves cs v k budget (counting cs v k budget)
counting_solves cs v k budget k1 kv =
    let n = settings_length k in
    let p : 2 ^ (k + 1) ≡ 2 ^ k + 2 ^ k = rw (add-one, pow-suc) (omega arith) in
    let q : 2 ^ 1 ≤ 2 ^ k = pow_mono k1 in
    let m : length (settings k) ≤ 2 ^ (k + 1) - 2 = omega arith in
    record {
      promised = tally_promised cs v k kv (try_each cs v budget (settings k) 0) (tallied cs v budget k kv (settings k) 0 (settings_long k));
      counted = each_steps cs v budget (settings k) 0 (omega arith);
      settled = λ led b. decided_weaker (0 + length (settings k)) (2 ^ (k + 1) - 2) (omega arith) _ (each_decided cs v k budget led (settings k) 0 (settings_long k) (omega arith));
    }

pub backtracking_answers : BacktrackingAnswers
backtracking_answers m budget kv = answers m budget (backtracked m budget) (backtracking_solves m.clauses m.variables m.leading budget kv)

pub counting_answers : CountingAnswers
counting_answers m budget k1 kv = answers m budget (counted m budget) (counting_solves m.clauses m.variables m.leading budget k1 kv)
