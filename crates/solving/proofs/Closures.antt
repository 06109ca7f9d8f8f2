-- The theorems of closure.
use Rattle.std.proofs.Common.{◌≡◌, false, List, length, ℤ}
use Rattle.solving.specs.Settings.{Setting, Within, full, reading_of}
use Rattle.solving.specs.Closing.{closure, violated}
use Rattle.solving.specs.ClosureLaws.{Keeps, Settles, Rests, Monotone}
use Rattle.solving.proofs.Places.{full_reading, within_trans}
use Rattle.solving.proofs.Closed.{Closed, units_within, units_grow, units_length, units_still, open_most, full_closed, whole_satisfies, not_violated}

pub closure_within : (cs : List (List ℤ)) (a t : Setting) → Within a t → Closed cs t → Within (closure cs a) t
unfolding closure
closure_within cs a t w k = units_within cs (length a) a t w k

pub closure_grows : (cs : List (List ℤ)) (a : Setting) → Within a (closure cs a)
unfolding closure
closure_grows cs a = units_grow cs (length a) a

pub closure_length : (cs : List (List ℤ)) (a : Setting) → length (closure cs a) ≡ length a
unfolding closure
closure_length cs a = units_length cs (length a) a

pub rests : Rests
unfolding closure
rests cs a = units_still cs (length a) a (open_most (length a) a)

pub closed_closure : (cs : List (List ℤ)) (a : Setting) → violated (closure cs a) cs ≡ false → Closed cs (closure cs a)
closed_closure cs a e = record { whole = e; still = rests cs a }

pub keeps : Keeps
keeps cs a r w e =
    let k = full_closed r cs e in
    let h = closure_within cs a (full r) w k in
    (h, not_violated (closure cs a) (full r) cs h k.whole)

pub settles : Settles
settles cs a e z = whole_satisfies (reading_of a) cs (rw (full_reading a z) e)

pub monotone : Monotone
monotone cs a b w e =
    let k = closed_closure cs b e in
    let h = closure_within cs a (closure cs b) (within_trans a b (closure cs b) w (closure_grows cs b)) k in
    (h, not_violated (closure cs a) (closure cs b) cs h e)
