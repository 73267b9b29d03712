use Rattle.trace_text.proofs.Written.{header_put}
use Rattle.trace_text.proofs.writing.put_header.Goals as goal

pub returns : goal.returns
returns c = header_put c.put_sizes.result c.args.cpus c.args.buckets c.args.buffer c.args.out.now.items c.extend_from_slice.new.self.items c.put_dec.new.out.items c.put_sizes.new.out.items c.in_ok-extend_from_slice.ensures.items (rw c.from.ensures at c.in_ok-put_dec.ensures) c.put_sizes.ensures
