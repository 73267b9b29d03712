use Rattle.trace_text.proofs.Written.{trace_among, written_whole}
use Rattle.trace_text.proofs.writing.text_of.Goals as goal

pub put_lines-requires : goal.put_lines-requires
put_lines-requires c = rw (c.deref.ensures.value, c.deref-2.ensures.value) (trace_among c.args.trace.now)

pub returns : goal.returns
returns c = written_whole c.args.trace.now c.deref.result.now c.deref-2.result.now c.deref-3.result.now c.new-out.result.items c.put_header.new.out.items c.put_lines.new.out.items c.extend_from_slice.new.self.items c.put_steps.new.out.items
    c.new-out.ensures.items c.in_ok-put_header.ensures c.in_ok-put_lines.ensures c.in_ok-extend_from_slice.ensures.items c.in_ok-put_steps.ensures c.deref.ensures.value c.deref-2.ensures.value c.deref-3.ensures.value
