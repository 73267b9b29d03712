use Rattle.std.proofs.Common.{◌<◌, refl, rules}
use Rattle.load_map.proofs.Applying.{on_ok, loads, unloads, maps_kernel}
use Rattle.load_map.proofs.maps.LoadMap.apply.Goals as goal

pub returns-in-Scan-clause-applied : goal.returns-in-Scan-clause-applied
returns-in-Scan-clause-applied c =
    let s = c.in-Scan in
    let some : 0 < s.length = search rules in
    on_ok c.map.result c.map.ensures.mapped (λ changed. rw s.is (loads c.args.self.now c.map.new.self _ s.pid s.base s.length s.image c.range_of.result (λ other pc. refl) (λ pc. refl) some c.range_of.ensures changed c.map.ensures.kernel))

pub returns-in-Load-clause-applied : goal.returns-in-Load-clause-applied
returns-in-Load-clause-applied c =
    let s = c.in-Load in
    let some : 0 < s.length = search rules in
    on_ok c.map-in-Load.result c.map-in-Load.ensures.mapped (λ changed. rw s.is (loads c.args.self.now c.map-in-Load.new.self _ s.pid s.base s.length s.image c.range_of-in-Load.result (λ other pc. refl) (λ pc. refl) some c.range_of-in-Load.ensures changed c.map-in-Load.ensures.kernel))

pub returns-in-Unload-clause-applied : goal.returns-in-Unload-clause-applied
returns-in-Unload-clause-applied c =
    let s = c.in-Unload in
    let some : 0 < s.length = search rules in
    on_ok c.unmap.result c.unmap.ensures.unmapped (λ changed. rw s.is (unloads c.args.self.now c.unmap.new.self s.pid s.base s.length some changed c.unmap.ensures.kernel))

pub returns-in-Kernel-clause-applied : goal.returns-in-Kernel-clause-applied
returns-in-Kernel-clause-applied c =
    let s = c.in-Kernel in
    let some : 0 < s.length = search rules in
    on_ok c.put.result c.put.ensures.put (λ changed. rw s.is (maps_kernel c.args.self.now _ s.base s.length s.image c.range_of-in-Kernel.result some c.range_of-in-Kernel.ensures (λ other. search rules) changed))
