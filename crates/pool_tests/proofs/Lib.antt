mod OneTrack
