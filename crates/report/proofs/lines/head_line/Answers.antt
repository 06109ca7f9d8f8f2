use Rattle.page.specs.Views.{filled_of}
use Rattle.page.proofs.Putting.{put_then}
use Rattle.report.proofs.lines.head_line.Goals as goal

pub returns : goal.returns
returns c =
    let p = filled_of c.args.page.now in
    let one = put_then _ _ p _ _ c.put.ensures.puts_the_bytes c.number.ensures.puts_its_digits in
    let two = put_then _ _ p _ _ (put_then _ _ p _ _ one c.put-2.ensures.puts_the_bytes) c.number-2.ensures.puts_its_digits in
    let three = put_then _ _ p _ _ (put_then _ _ p _ _ two c.put-3.ensures.puts_the_bytes) c.number-3.ensures.puts_its_digits in
    let four = put_then _ _ p _ _ (put_then _ _ p _ _ three c.put-4.ensures.puts_the_bytes) c.number-4.ensures.puts_its_digits in
    record { puts_the_head = put_then _ _ p _ _ four c.byte.ensures.puts_the_byte }
