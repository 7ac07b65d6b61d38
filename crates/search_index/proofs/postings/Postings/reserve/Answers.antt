-- More heads and more room leave the chains as they are.
use Rattle.search_index.proofs.NetLemmas.{no_pads, sound_pads, sound_reserves}
use Rattle.search_index.proofs.postings.Postings.reserve.Goals as goal

pub invariant_of-self : goal.invariant_of-self
invariant_of-self c = record {
  sound = sound_pads c.self.inside.items c.self.inside.objects.items c.pad.new.heads.items c.self.inside.terms.items c.self.inside.terms.items c.pad.ensures.pads (no_pads c.self.inside.terms.items) c.self.invariant.sound;
  objects_numbered = c.pad.ensures.numbered c.self.invariant.objects_numbered;
  terms_numbered = c.self.invariant.terms_numbered;
}

pub invariant_of-self-in_err-pad-2 : goal.invariant_of-self-in_err-pad-2
invariant_of-self-in_err-pad-2 c = record {
  sound = sound_pads c.self.inside.items c.self.inside.objects.items c.pad.new.heads.items c.self.inside.terms.items c.pad-2.new.heads.items c.pad.ensures.pads c.pad-2.ensures.pads c.self.invariant.sound;
  objects_numbered = c.pad.ensures.numbered c.self.invariant.objects_numbered;
  terms_numbered = c.pad-2.ensures.numbered c.self.invariant.terms_numbered;
}

pub invariant_of-self-in_err-reserve : goal.invariant_of-self-in_err-reserve
invariant_of-self-in_err-reserve c = record {
  sound = sound_reserves c.self.inside.items c.reserve.new.self c.pad.new.heads.items c.pad-2.new.heads.items c.reserve.ensures.rest_kept
      (sound_pads c.self.inside.items c.self.inside.objects.items c.pad.new.heads.items c.self.inside.terms.items c.pad-2.new.heads.items c.pad.ensures.pads c.pad-2.ensures.pads c.self.invariant.sound);
  objects_numbered = c.pad.ensures.numbered c.self.invariant.objects_numbered;
  terms_numbered = c.pad-2.ensures.numbered c.self.invariant.terms_numbered;
}

pub invariant_of-self-2 : goal.invariant_of-self-2
invariant_of-self-2 c = record {
  sound = sound_reserves c.self.inside.items c.reserve.new.self c.pad.new.heads.items c.pad-2.new.heads.items c.reserve.ensures.rest_kept
      (sound_pads c.self.inside.items c.self.inside.objects.items c.pad.new.heads.items c.self.inside.terms.items c.pad-2.new.heads.items c.pad.ensures.pads c.pad-2.ensures.pads c.self.invariant.sound);
  objects_numbered = c.pad.ensures.numbered c.self.invariant.objects_numbered;
  terms_numbered = c.pad-2.ensures.numbered c.self.invariant.terms_numbered;
}
