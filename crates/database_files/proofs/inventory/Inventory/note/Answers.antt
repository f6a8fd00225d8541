use Rattle.std.proofs.Common.{◌≡◌, arith}
use Rattle.std.specs.Prelude.{codes}
use Rattle.database_files.proofs.Inventories.{all_with, all_without, differ, is_no_copy, of_other, of_this}
use Rattle.database_files.proofs.inventory.Inventory.note.Goals as goal

pub returns-in_default-copy_of : goal.returns-in_default-copy_of
returns-in_default-copy_of c = λ names was.
    let name = c.args.name.now in
    let it = c.args.self.now in record {
      log = of_other it.has_log names name (codes "log") c.in_default.not-log was.log;
      volume = of_other it.has_volume names name (codes "volume") c.in_default.not-volume was.volume;
      master = of_other it.has_master names name (codes "master") c.in_default.not-master was.master;
      closed = of_other it.has_closed names name (codes "closed") c.in_default.not-closed was.closed;
      manifest = of_other it.has_manifest names name (codes "manifest") c.in_default.not-manifest was.manifest;
      copies = all_without it.copies.items names name c.in_default-copy_of.ensures was.copies;
      unfinished = was.unfinished;
    }

pub returns-in-log : goal.returns-in-log
returns-in-log c = λ names was.
    let name = c.args.name.now in
    let it = c.args.self.now in
    let this = codes "log" in
    let is : name ≡ this = c.in-log.is in record {
      log = of_this names name this is;
      volume = of_other it.has_volume names name (codes "volume") (differ name this (codes "volume") 0 is (λ (e : 108 ≡ 118). absurd (omega (arith, e)))) was.volume;
      master = of_other it.has_master names name (codes "master") (differ name this (codes "master") 0 is (λ (e : 108 ≡ 109). absurd (omega (arith, e)))) was.master;
      closed = of_other it.has_closed names name (codes "closed") (differ name this (codes "closed") 0 is (λ (e : 108 ≡ 99). absurd (omega (arith, e)))) was.closed;
      manifest = of_other it.has_manifest names name (codes "manifest") (differ name this (codes "manifest") 0 is (λ (e : 108 ≡ 109). absurd (omega (arith, e)))) was.manifest;
      copies = all_without it.copies.items names name (is_no_copy name this 0 is (λ id (e : 108 ≡ 99). absurd (omega (arith, e)))) was.copies;
      unfinished = was.unfinished;
    }

pub returns-in-volume : goal.returns-in-volume
returns-in-volume c = λ names was.
    let name = c.args.name.now in
    let it = c.args.self.now in
    let this = codes "volume" in
    let is : name ≡ this = c.in-volume.is in record {
      log = of_other it.has_log names name (codes "log") (differ name this (codes "log") 0 is (λ (e : 118 ≡ 108). absurd (omega (arith, e)))) was.log;
      volume = of_this names name this is;
      master = of_other it.has_master names name (codes "master") (differ name this (codes "master") 0 is (λ (e : 118 ≡ 109). absurd (omega (arith, e)))) was.master;
      closed = of_other it.has_closed names name (codes "closed") (differ name this (codes "closed") 0 is (λ (e : 118 ≡ 99). absurd (omega (arith, e)))) was.closed;
      manifest = of_other it.has_manifest names name (codes "manifest") (differ name this (codes "manifest") 0 is (λ (e : 118 ≡ 109). absurd (omega (arith, e)))) was.manifest;
      copies = all_without it.copies.items names name (is_no_copy name this 0 is (λ id (e : 118 ≡ 99). absurd (omega (arith, e)))) was.copies;
      unfinished = was.unfinished;
    }

pub returns-in-master : goal.returns-in-master
returns-in-master c = λ names was.
    let name = c.args.name.now in
    let it = c.args.self.now in
    let this = codes "master" in
    let is : name ≡ this = c.in-master.is in record {
      log = of_other it.has_log names name (codes "log") (differ name this (codes "log") 0 is (λ (e : 109 ≡ 108). absurd (omega (arith, e)))) was.log;
      volume = of_other it.has_volume names name (codes "volume") (differ name this (codes "volume") 0 is (λ (e : 109 ≡ 118). absurd (omega (arith, e)))) was.volume;
      master = of_this names name this is;
      closed = of_other it.has_closed names name (codes "closed") (differ name this (codes "closed") 0 is (λ (e : 109 ≡ 99). absurd (omega (arith, e)))) was.closed;
      manifest = of_other it.has_manifest names name (codes "manifest") (differ name this (codes "manifest") 2 is (λ (e : 115 ≡ 110). absurd (omega (arith, e)))) was.manifest;
      copies = all_without it.copies.items names name (is_no_copy name this 0 is (λ id (e : 109 ≡ 99). absurd (omega (arith, e)))) was.copies;
      unfinished = was.unfinished;
    }

pub returns-in-closed : goal.returns-in-closed
returns-in-closed c = λ names was.
    let name = c.args.name.now in
    let it = c.args.self.now in
    let this = codes "closed" in
    let is : name ≡ this = c.in-closed.is in record {
      log = of_other it.has_log names name (codes "log") (differ name this (codes "log") 0 is (λ (e : 99 ≡ 108). absurd (omega (arith, e)))) was.log;
      volume = of_other it.has_volume names name (codes "volume") (differ name this (codes "volume") 0 is (λ (e : 99 ≡ 118). absurd (omega (arith, e)))) was.volume;
      master = of_other it.has_master names name (codes "master") (differ name this (codes "master") 0 is (λ (e : 99 ≡ 109). absurd (omega (arith, e)))) was.master;
      closed = of_this names name this is;
      manifest = of_other it.has_manifest names name (codes "manifest") (differ name this (codes "manifest") 0 is (λ (e : 99 ≡ 109). absurd (omega (arith, e)))) was.manifest;
      copies = all_without it.copies.items names name (is_no_copy name this 1 is (λ id (e : 108 ≡ 111). absurd (omega (arith, e)))) was.copies;
      unfinished = was.unfinished;
    }

pub returns-in-manifest : goal.returns-in-manifest
returns-in-manifest c = λ names was.
    let name = c.args.name.now in
    let it = c.args.self.now in
    let this = codes "manifest" in
    let is : name ≡ this = c.in-manifest.is in record {
      log = of_other it.has_log names name (codes "log") (differ name this (codes "log") 0 is (λ (e : 109 ≡ 108). absurd (omega (arith, e)))) was.log;
      volume = of_other it.has_volume names name (codes "volume") (differ name this (codes "volume") 0 is (λ (e : 109 ≡ 118). absurd (omega (arith, e)))) was.volume;
      master = of_other it.has_master names name (codes "master") (differ name this (codes "master") 2 is (λ (e : 110 ≡ 115). absurd (omega (arith, e)))) was.master;
      closed = of_other it.has_closed names name (codes "closed") (differ name this (codes "closed") 0 is (λ (e : 109 ≡ 99). absurd (omega (arith, e)))) was.closed;
      manifest = of_this names name this is;
      copies = all_without it.copies.items names name (is_no_copy name this 0 is (λ id (e : 109 ≡ 99). absurd (omega (arith, e)))) was.copies;
      unfinished = was.unfinished;
    }

pub returns-in_ok-push-in_default : goal.returns-in_ok-push-in_default
returns-in_ok-push-in_default c = λ names was.
    let name = c.args.name.now in
    let it = c.args.self.now in
    let not = c.in_default in record {
      log = of_other it.has_log names name (codes "log") not.not-log was.log;
      volume = of_other it.has_volume names name (codes "volume") not.not-volume was.volume;
      master = of_other it.has_master names name (codes "master") not.not-master was.master;
      closed = of_other it.has_closed names name (codes "closed") not.not-closed was.closed;
      manifest = of_other it.has_manifest names name (codes "manifest") not.not-manifest was.manifest;
      copies = all_with it.copies.items c.push.new.self.items names name c.in-Some.id c.in-Some.ensures
          c.in_ok-push-in_default.ensures.items was.copies;
      unfinished = was.unfinished;
    }
