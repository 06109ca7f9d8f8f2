-- Both statements are lemmas on the three values.
use Rattle.signal.proofs.Exactness.{ternary_gates_exact, unknown_where_both_are_made}
use Rattle.signal.proofs.ternary.ternary_stands.Goals as goal

pub returns : goal.returns
returns c =
    record {
      gates_allow_exactly_what_some_choice_makes = ternary_gates_exact;
      an_answer_is_unknown_exactly_where_both_bits_are_made = unknown_where_both_are_made;
    }
