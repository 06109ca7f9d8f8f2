use Rattle.std.proofs.Common.{◌≡◌, ℕ, ◌+◌, ◌-◌, ◌*◌, Bool, true, false, cond, is_ok, Ok, Err, Result, sym, refl, ◌∙◌, subst, arith}
use Rattle.std.proofs.lemmas.Bool.{false≢true}
use mir.Facts.{Fits-bits}
use mir.Val.{bool_byte}
use Rattle.asking.proofs.Counted.{Weighing, weighing_none, weighing_more, weighing_all, weighing_in_form, care_fits, value_fits}
use Rattle.asking.proofs.setting.setting.Goals as goal

byte : (b : Bool) → bool_byte b ≡ cond b 1 0
byte true = refl
byte false = refl

-- what was granted is there
refuted : {T E : Type 0} (r : Result T E) → is_ok r ≡ true → ((x : T) → r ≡ Ok x → ⊥) → ⊥
refuted (Ok x) t never = never x refl
refuted (Err e) t never = false≢true t

pub loop-j-init : goal.loop-j-init
loop-j-init g c = weighing_none _ _

pub overflow_mul-care : goal.overflow_mul-care
overflow_mul-care g c =
    let lt = care_fits _ _ (c.loop-j.j - 1) _ _ _ (omega arith) c.loop-j.auto.j c.loop-j.invariant c.requires.at_most_32_inputs in
    Fits-bits 32 tt (omega arith)

pub overflow_add-care : goal.overflow_add-care
overflow_add-care g c = Fits-bits 32 tt (care_fits _ _ (c.loop-j.j - 1) _ _ _ (omega arith) c.loop-j.auto.j c.loop-j.invariant c.requires.at_most_32_inputs)

pub overflow_mul-value : goal.overflow_mul-value
overflow_mul-value g c =
    let lt = value_fits _ _ (c.loop-j.j - 1) _ _ _ (omega arith) c.loop-j.auto.j c.loop-j.invariant c.requires.at_most_32_inputs false in
    Fits-bits 32 tt (omega arith)

pub overflow_add-value : goal.overflow_add-value
overflow_add-value g c =
    let e : c.from.result ≡ cond c.bit.result 1 0 = c.from.ensures ∙ byte c.bit.result in
    let lt = value_fits _ _ (c.loop-j.j - 1) _ _ _ (omega arith) c.loop-j.auto.j c.loop-j.invariant c.requires.at_most_32_inputs c.bit.result in
    Fits-bits 32 tt (omega arith)

pub loop-j-preserved : goal.loop-j-preserved
loop-j-preserved g c =
    let e : c.from.result ≡ cond c.bit.result 1 0 = c.from.ensures ∙ byte c.bit.result in
    subst (λ (n : ℕ). Weighing (g.S.Solver.model c.args.solver.now) c.args.inputs (c.loop-j.j - 1) (2 * c.loop-j.care + 1) (2 * c.loop-j.value + n)) (sym e)
    (weighing_more _ _ (c.loop-j.j - 1) _ _ _ (omega arith) c.loop-j.auto.j c.loop-j.invariant c.bit.result c.bit.ensures.is_the_readings_bit)

pub unreachable-requires : goal.unreachable-requires
unreachable-requires g c = refuted c.new.result (c.new.ensures.in_form_means_bit_by_bit.1 (weighing_in_form _ _ _ _ _ c.loop-j-test.false c.loop-j.invariant)) c.in_default.not-Ok

pub returns : goal.returns
returns g c = record { fixes_each_input_to_its_bit = λ reading e long fits. c.in-Ok.ensures.holds_both_numbers ∙ weighing_all _ _ _ _ _ c.loop-j-test.false c.loop-j.invariant reading e long fits }
