use Rattle.std.proofs.Common.{refl}
use Rattle.std.specs.Fmt.{digits}
use Rattle.reading.specs.Reading.{read_from}
use Rattle.solving.specs.Backtracking.{descend}
use Rattle.solving.specs.Closing.{closure, units}
use Rattle.solving.specs.Counting.{settings, try_each}
use Rattle.formula.specs.Formulas.{formula_of}
use Rattle.faults.specs.Catching.{catches_fault}
use Rattle.report.specs.Lines.{refusal_text, sheet_text}
use Rattle.sheets.specs.Working.{found, sheet_view}
use Rattle.small_cards.specs.Cards.{net_one_at_zero, net_three_at_one, net_zero_at_zero}
use Rattle.small_cards.proofs.small_cards_stand.Goals as goal

pub returns : goal.returns
unfolding read_from formula_of units closure descend settings try_each found catches_fault sheet_view digits sheet_text refusal_text
returns c = record {
  every_worked_case_holds = record {
    readings = record { a = refl; b = refl; the_benchmark = refl; b_without_its_end = record { reads = refl; has_the_number = refl; has_the_offset = refl }; operand_not_declared = record { reads = refl; has_the_number = refl; has_the_offset = refl }; only_the_end = record { reads = refl; has_the_number = refl; has_the_offset = refl }; a_wire = refl; an_output_again = record { reads = refl; has_the_number = refl; has_the_offset = refl }; thirty_two_inputs = refl; a_33rd_input = record { reads = refl; has_the_number = refl; has_the_offset = refl } };
    fault_counts = record { b_has_12 = refl; a_has_10 = refl; a_wire_has_2 = refl; c17_has_34 = refl };
    branch_is_not_net = record { fault_0 = refl; fault_8 = refl; the_net_is_caught = refl; the_branch_is_not = refl };
    formulas = record { b_fault_2 = refl; b_fault_2_has_10_variables = refl; b_fault_2_has_22_clauses = refl; b_fault_2_has_72_places = refl; c17_fault_0 = refl; c17_fault_0_has_25_variables = refl; c17_fault_0_has_56_clauses = refl; c17_fault_0_has_187_places = refl };
    thinning = record { fault_7 = refl; from_000 = refl; x00_catches = refl; xx0_does_not = refl };
    cells = record { merging_1x_with_10 = refl; merging_1x_with_10_is_granted = refl; merging_0x_with_10_is_refused = refl; care_3_with_one_input_is_refused = refl };
    searches = record {
      b_fault_2_budget_1_is_undecided = record { stuck = net_one_at_zero; is_the_faults_line = refl; answers = refl; finds = refl; marks = refl };
      b_fault_2_budget_2_is_untestable_in_2_steps = record { stuck = net_one_at_zero; is_the_faults_line = refl; answers = refl; finds = refl; marks = refl };
      b_fault_2_counting_is_undecided_after_3 = record { stuck = net_one_at_zero; is_the_faults_line = refl; answers = refl; finds = refl; marks = refl };
      b_fault_2_counting_needs_4 = record { stuck = net_one_at_zero; is_the_faults_line = refl; answers = refl; finds = refl; marks = refl };
      b_fault_0_budget_2_is_undecided = record { stuck = net_zero_at_zero; is_the_faults_line = refl; answers = refl; finds = refl; marks = refl };
      b_fault_0_budget_3_gives_1x = record { stuck = net_zero_at_zero; is_the_faults_line = refl; answers = refl; finds = refl; marks = refl };
      a_fault_7_budget_1_is_undecided = record { stuck = net_three_at_one; is_the_faults_line = refl; answers = refl; finds = refl; marks = refl };
      a_fault_7_gives_x00_in_2_steps = record { stuck = net_three_at_one; is_the_faults_line = refl; answers = refl; finds = refl; marks = refl };
      a_fault_7_gives_x00_in_2_steps_on_a_sheet = record { stuck = net_three_at_one; is_the_faults_line = refl; answers = refl; finds = refl; marks = refl };
      backtracking_finds_010000_in_5_steps = record { answers = refl; leaves_the_reading = refl };
      counting_finds_it_in_17 = record { answers = refl; leaves_the_reading = refl };
    };
    jobs = record {
      merging_1x_with_10_gives_10 = (_, (_, (_, refl, (refl, refl)), (refl, refl)), (refl, refl));
      merging_0x_with_10_is_refused = (_, (_, (_, refl, (refl, refl)), (refl, refl)), (refl, refl));
      which_is_18 = refl;
      care_3_with_one_input_is_refused = λ v value. refl;
      which_is_16 = refl;
    };
    sheets = record { what_the_job_of_b_holds = refl; the_sheet_of_b = refl; the_sheet_of_c17 = refl; the_line_of_a_bad_card = refl; all_faults_of_c17_are_detected = refl; the_sheet_of_c17_has_11_vectors = refl };
  };
}
